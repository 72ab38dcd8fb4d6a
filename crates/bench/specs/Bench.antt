-- The bench ONU: which own event comes before a cell, and what a cell makes of it.
use Rattle.std.specs.Prelude.{◌≡◌, ℕ, ◌+◌, min, Bool, true, false, cond, ◌&&◌, List, [], ◌∷◌, nat_le}
use Rattle.field.specs.Bytes.{plain_bytes}
use Rattle.field.specs.Octets.{octets_of}
use Rattle.field.specs.declared.number.Number.{Number}
use Rattle.field.specs.declared.octets.Octets.{Octets}
use Rattle.onu.specs.Onu.{inside, new_onu}
use Rattle.onu.specs.declared.event.OwnEvent.TheVariants.{SignalReturn, PowerSetUp, FirstTimer, SecondTimer}
use Rattle.onu.specs.declared.state.Onu.{Onu}
use Rattle.upstream.specs.Message.{source_byte}
use Rattle.plant.specs.Heard.{heard_grants, heard_message}
use Rattle.plant.specs.Lawful.{Move, own, by_move, by_moves, acted, answers, steady, Drifts}
use Rattle.plant.specs.declared.burst.Burst.{Burst}
use Rattle.bench.specs.declared.machine.Machine.{Machine}

-- what it says where the message is free: No message, from its PON_ID or from nobody yet
unfoldable pub quiet : Onu → Octets 12
quiet o = octets_of 12 (plain_bytes (source_byte o.id) 0 [])

-- at most one own event comes before a cell: good signal at the first, the first timer after 131,072 cells,
-- the second after 1,310, power set-up at the cell after O3 was reached
abbrev pub due : Machine → List Move
due s =
    cond s.fresh (own SignalReturn ∷ [])
    (cond (inside 5 7 s.onu && nat_le 131072 s.ranging) (own FirstTimer ∷ [])
    (cond (inside 10 10 s.onu && nat_le 1310 s.popup) (own SecondTimer ∷ [])
    (cond (inside 3 4 s.onu) (own PowerSetUp ∷ []) [])))

-- the ONU that answers the cell
unfoldable pub woken : Machine → Onu
woken s = by_moves (due s) s.onu

-- a timer counts the cells at whose end it runs, up to the greatest number of 32 bits
abbrev pub counted : Bool → ℕ → ℕ
counted running n = cond running (min (n + 1) 4294967295) 0

abbrev pub ticked : Onu → (ranging popup : ℕ) → Machine
ticked o n m = record { onu = o; fresh = false; ranging = counted (inside 5 7 o) n; popup = counted (inside 10 10 o) m }

unfoldable pub after_cell : Machine → List ℕ → Machine
after_cell s p = ticked (acted (heard_message p) (woken s)) s.ranging s.popup

-- its answers
abbrev pub answers_of : Machine → ℕ → List ℕ → List Burst
answers_of s first p = answers (steady (quiet (woken s))) (woken s) first (heard_grants p)

-- an accepted cell: the state table exactly, and the answers of that ONU
abbrev pub BenchDoes : Machine → List ℕ → ℕ → Machine → List Burst → Type 0
BenchDoes s p first t new = (t ≡ after_cell s p) × (new ≡ answers_of s first p)

-- the ONU moves, and nothing else changes
abbrev pub met : Move → Machine → Machine
met m s = record s { onu = by_move m s.onu }

-- what the host does between cells: the ONU moves, which is a drift
pub record Meets (m : Move) (s t : Machine) : Type 0 where
  pub machine : t ≡ met m s
  pub drifts : Drifts (s.onu ∷ []) (t.onu ∷ [])

abbrev pub new_machine : Number 18446744073709551615 → Number 1000000 → Machine
new_machine serial trip = record { onu = new_onu serial trip; fresh = true; ranging = 0; popup = 0 }
