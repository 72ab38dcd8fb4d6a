-- The ONU's state table: what each event makes of an ONU.
use Rattle.std.specs.Prelude.{ℕ, ◌%◌, ◌^◌, Bool, true, false, cond, ◌&&◌, Some, None, Option, ◌==◌, nat_le}
use Rattle.field.specs.declared.bounded.Bounded.{Bounded}
use Rattle.field.specs.declared.number.Number.{Number}
use Rattle.field.specs.Delay.{Delay, no_delay}
use Rattle.message.specs.declared.downstream.Access.{Access}
use Rattle.message.specs.declared.downstream.Access.TheVariants.{Deny, AllowAll, Allow}
use Rattle.message.specs.declared.downstream.Address.{Address}
use Rattle.message.specs.declared.downstream.Address.TheVariants.{One, All}
use Rattle.message.specs.declared.downstream.Allocation.{Allocation}
use Rattle.message.specs.declared.downstream.Downstream.{Downstream}
use Rattle.message.specs.declared.downstream.Downstream.TheVariants.{UpstreamOverhead, RangingTime, SerialNumberMask, AssignPonId, DeactivatePonId, DisableSerialNumber, GrantAllocation, Popup}
use Rattle.onu.specs.declared.event.Event.{Event}
use Rattle.onu.specs.declared.event.Event.TheVariants.{Message, Own}
use Rattle.onu.specs.declared.event.OwnEvent.{OwnEvent}
use Rattle.onu.specs.declared.event.OwnEvent.TheVariants.{SignalLoss, SignalReturn, PowerSetUp, FirstTimer, SecondTimer, PowerLoss}
use Rattle.onu.specs.declared.state.Onu.{Onu}
use Rattle.onu.specs.declared.state.State.{State}
use Rattle.onu.specs.declared.state.State.TheVariants.{O1, O2, O3, O4, O5, O6, O7, O8, O9, O10}

abbrev pub number : State → ℕ
number O1 = 1
number O2 = 2
number O3 = 3
number O4 = 4
number O5 = 5
number O6 = 6
number O7 = 7
number O8 = 8
number O9 = 9
number O10 = 10

-- the ONU is in one of the states from Oa to Ob
abbrev pub inside : ℕ → ℕ → Onu → Bool
inside a b o = nat_le a (number o.state) && nat_le (number o.state) b

-- a PON_ID or a code is held, and it is this one
abbrev pub has : {low high : ℕ} → Option (Bounded low high) → ℕ → Bool
has None n = false
has (Some x) n = x.value == n

-- the serial number is the ONU's own
abbrev pub named : Number 18446744073709551615 → Onu → Bool
named serial o = serial.value == o.serial.value

-- to another state, all else kept
abbrev pub moved : State → Onu → Onu
moved s o = record o { state = s }

-- to another state without PON_ID and codes, and with these two delays
abbrev pub lapsed : State → (preset register : Delay) → Onu → Onu
lapsed s e d o = record o { state = s; id = None; grant = None; ploam = None; preset = e; register = d }

-- to O1 or to O2: the pre-assigned delay is given up too, the register stays until O3 sets it
abbrev pub restarted : State → Onu → Onu
restarted s o = lapsed s no_delay o.register o

-- to O3 with a pre-assigned delay, which the register then holds
abbrev pub readied : Delay → Onu → Onu
readied e o = lapsed O3 e e o

abbrev pub assigned : Bounded 0 63 → Onu → Onu
assigned p o = record o { id = Some p }

-- a code that is not active is none
abbrev pub code_in : Allocation → Option (Bounded 0 252)
code_in a = cond a.active (Some a.code) None

-- to O7 with a code for data cells and one for PLOAM cells, or without
abbrev pub coded : (grant ploam : Option (Bounded 0 252)) → Onu → Onu
coded c d o = record o { state = O7; grant = c; ploam = d }

abbrev pub allocated : (grant ploam : Allocation) → Onu → Onu
allocated g d o = coded (code_in g) (code_in d) o

-- to a state in which the register holds a delay
abbrev pub delayed : State → Delay → Onu → Onu
delayed s d o = record o { state = s; register = d }

-- the n lowest bits are those of the ONU's serial number
abbrev pub matches : Bounded 0 64 → Number 18446744073709551615 → Onu → Bool
matches n serial o = serial.value % 2 ^ n.value == o.serial.value % 2 ^ n.value

-- a mask that fits brings forward, one that does not takes back
abbrev pub masked : Bool → Onu → Onu
masked true o = cond (inside 3 3 o) (moved O4 o) (cond (inside 5 5 o) (moved O6 o) o)
masked false o = cond (inside 4 4 o) (readied o.preset o) (cond (inside 6 6 o) (moved O5 o) o)

-- the message goes to this ONU
abbrev pub meant : Address → Onu → Bool
meant (One p) o = has o.id p.value
meant All o = true

-- one ONU is told to stop, one or all may start again
abbrev pub disabled : Access → Onu → Onu
disabled (Deny serial) o = cond (inside 2 8 o && named serial o) (lapsed O9 o.preset o.register o) o
disabled AllowAll o = cond (inside 9 9 o) (restarted O1 o) o
disabled (Allow serial) o = cond (inside 9 9 o && named serial o) (restarted O1 o) o

-- Messages, row by row: in which states one acts and what then becomes of the ONU; elsewhere it does nothing.
abbrev pub obeyed : Downstream → Onu → Onu
obeyed (UpstreamOverhead guard overhead delay) o = cond (inside 2 2 o) (readied delay o) o
obeyed (SerialNumberMask bits serial) o = masked (matches bits serial o) o
obeyed (AssignPonId p serial) o = cond (inside 5 6 o && named serial o) (assigned p o) o
obeyed (GrantAllocation p grant ploam) o = cond (inside 5 6 o && has o.id p.value) (allocated grant ploam o) o
obeyed Popup o = cond (inside 10 10 o) (delayed O7 o.preset o) o
obeyed (RangingTime p delay) o = cond (inside 7 8 o && has o.id p.value) (delayed O8 delay o) o
obeyed (DeactivatePonId to) o = cond (inside 3 8 o && meant to o) (restarted O2 o) o
obeyed (DisableSerialNumber access) o = disabled access o
obeyed _ o = o

-- Own events, row by row. Power loss forgets everything, but an ONU that was told to stop stays stopped.
abbrev pub happened : OwnEvent → Onu → Onu
happened PowerSetUp o = cond (inside 3 4 o) (moved O5 o) o
happened SecondTimer o = cond (inside 10 10 o) (restarted O1 o) o
happened FirstTimer o = cond (inside 5 7 o) (readied o.preset o) o
happened SignalLoss o = cond (inside 2 7 o) (restarted O1 o) (cond (inside 8 8 o) (moved O10 o) o)
happened SignalReturn o = cond (inside 1 1 o) (restarted O2 o) o
happened PowerLoss o = cond (inside 9 9 o) o (lapsed O1 no_delay no_delay o)

abbrev pub stepped : Event → Onu → Onu
stepped (Message m) o = obeyed m o
stepped (Own e) o = happened e o

-- an ONU that was never switched on
abbrev pub new_onu : Number 18446744073709551615 → Number 1000000 → Onu
new_onu serial trip = record { serial = serial; state = O1; id = None; grant = None; ploam = None; preset = no_delay; register = no_delay; trip = trip }
