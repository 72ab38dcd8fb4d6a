-- A line with 65 ports: what stands in a port, what the host makes of it, and whom the line means.
use Rattle.std.specs.Prelude.{◌≡◌, ℕ, cond, List, [], ◌∷◌, map, Some, None, Option, option_map, ◌==◌}
use Rattle.std.specs.List.{slice_get}
use Rattle.bench.specs.Bench.{met, new_machine}
use Rattle.bench.specs.declared.bench_onu.BenchOnu.{BenchOnu}
use Rattle.bench.specs.declared.machine.Machine.{Machine}
use Rattle.fibre.specs.Fibre.{far}
use Rattle.fibre.specs.declared.Fibre.{Fibre}
use Rattle.field.specs.Number.{capped}
use Rattle.field.specs.declared.number.Number.{Number}
use Rattle.lossy_drop.specs.declared.LossyDrop.{LossyDrop}
use Rattle.onu.specs.declared.event.OwnEvent.TheVariants.{SignalLoss, SignalReturn, PowerLoss}
use Rattle.onu.specs.declared.state.Onu.{Onu}
use Rattle.outlet.specs.Outlet.{plugged}
use Rattle.outlet.specs.declared.Outlet.{Outlet}
use Rattle.plant.specs.Lawful.{Move, own, drift}
use Rattle.splitter.specs.Splitter.{joined}
use Rattle.star.specs.Star.{lighted}
use Rattle.ports.specs.declared.tree.Change.{Change}
use Rattle.ports.specs.declared.tree.Change.TheVariants.{FibreBits, Pattern, Host}
use Rattle.ports.specs.declared.tree.HostEvent.{HostEvent}
use Rattle.ports.specs.declared.tree.HostEvent.TheVariants.{SignalLost, SignalBack, PowerLost, Trip}
use Rattle.ports.specs.declared.tree.Tree.{Tree}

abbrev pub Port : Type 0
Port = LossyDrop (Fibre (Outlet BenchOnu))

abbrev pub bench_means : BenchOnu → List Onu
bench_means b = b.machine.onu ∷ []

-- the bench ONU in a port, with its timers
abbrev pub machine_in : Port → Option Machine
machine_in p = option_map (λ (b : BenchOnu). b.machine) p.plant.plant.plant

-- the ONU in a port, without the fibres before it
abbrev pub onu_in : Port → Option Onu
onu_in p = option_map (λ (b : BenchOnu). b.machine.onu) p.plant.plant.plant

abbrev pub port_means : Port → List Onu
port_means p = map (far p.plant.bits.value) (plugged bench_means p.plant.plant.plant)

-- the ONUs of all lit ports as they are seen at the head
abbrev pub line_means : Tree → List Onu
line_means t = map (far t.line.bits.value) (joined (lighted port_means [] t.line.plant.plant.one.arms.items) (port_means t.line.plant.plant.two))

-- ports 0 to 63 are the arms of the star, 64 is beside it
abbrev pub port_at : ℕ → Tree → Option Port
port_at n t = cond (n == 64) (Some t.line.plant.plant.two) (slice_get t.line.plant.plant.one.arms.items n)

abbrev pub onu_of : Option Port → Option Onu
onu_of None = None
onu_of (Some p) = onu_in p

-- a port of a new line, if there is one of that number: no ONU, no length, no loss
abbrev pub AsNew : Option Port → Type 0
AsNew None = Unit {0}
AsNew (Some p) = (onu_in p ≡ None) × (p.plant.bits ≡ capped 32000 0) × (p.pattern ≡ 0)

-- what a host's event is to the ONU
abbrev pub host_move : HostEvent → Move
host_move SignalLost = own SignalLoss
host_move SignalBack = own SignalReturn
host_move PowerLost = own PowerLoss
host_move (Trip bits) = drift (capped 1000000 bits)

-- a host's event moves the ONU that is there; its timers stay
abbrev pub machine_after : Change → Option Machine → Option Machine
machine_after (Host e) m = option_map (met (host_move e)) m
machine_after (FibreBits bits) m = m
machine_after (Pattern pattern) m = m

abbrev pub bits_after : Change → Number 32000 → Number 32000
bits_after (FibreBits bits) d = capped 32000 bits
bits_after _ d = d

abbrev pub pattern_after : Change → ℕ → ℕ
pattern_after (Pattern pattern) old = pattern
pattern_after _ old = old

-- what a change makes of a port
abbrev pub Changed : Change → Port → Port → Type 0
Changed c p q =
    (machine_in q ≡ machine_after c (machine_in p)) × (q.plant.bits ≡ bits_after c p.plant.bits) × (q.pattern ≡ pattern_after c p.pattern)

-- a new ONU is in the port, in place of what was there
abbrev pub Plugged : Number 18446744073709551615 → (trip : ℕ) → Port → Port → Type 0
Plugged serial trip p q =
    (machine_in q ≡ Some (new_machine serial (capped 1000000 trip))) × (q.plant.bits ≡ p.plant.bits) × (q.pattern ≡ p.pattern)

-- the port of a number before and after; a number past the last port changes nothing
abbrev pub AtPort : (Port → Port → Type 0) → Option Port → Option Port → Type 0
AtPort R (Some p) (Some q) = R p q
AtPort R None None = Unit {0}
AtPort R None (Some q) = ⊥
AtPort R (Some p) None = ⊥
