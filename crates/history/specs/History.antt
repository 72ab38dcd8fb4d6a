-- One history: an ONU is entered, measured, told its delay and in service.
use Rattle.std.specs.Prelude.{◌≡◌, ℕ, ◌+◌, ◌-◌, ◌*◌, List, [], ◌∷◌, Some, Contains}
use Rattle.bench.specs.Bench.{BenchDoes}
use Rattle.bench.specs.declared.machine.Machine.{Machine}
use Rattle.head.specs.Steps.{place_row, settle_head}
use Rattle.head.specs.declared.head.Head.{Head}
use Rattle.line.specs.NoOverlap.{opening, Steady}
use Rattle.line.specs.Run.{HeardCell, all_bursts, Run}
use Rattle.onu.specs.declared.state.Onu.{Onu}
use Rattle.onu.specs.declared.state.State.TheVariants.{O8}
use Rattle.plant.specs.Lawful.{Lawful}
use Rattle.plant.specs.declared.burst.Burst.{Burst}
use Rattle.rules.specs.declared.row.Phase.TheVariants.{Waiting, InService}

-- a bench ONU is a plant of one ONU
abbrev pub means : Machine → List Onu
means q = q.onu ∷ []

-- the slot at X 53 of frame 1,039
abbrev pub measuring_slot : ℕ
measuring_slot = 53 * 1039 + 52

-- A run over 2,064 frames, in which the ONU of place 0 is measured, told and in service.
pub record History : Type 0 where
  -- the head and the ONU before and after the report of frame 2,063 is settled, and all cells heard
  pub before : Head
  pub after : Head
  pub onu : Machine
  pub cells : List HeardCell
  pub report : List ℕ
  -- it is a run of a lawful plant, and it meets the premise on round trips
  pub lawful : Lawful means BenchDoes
  pub run_before : Run means BenchDoes before onu cells
  pub run : Run means BenchDoes after onu cells
  pub steady : Steady (opening cells) cells
  -- settling that report is the last call
  pub last : after ≡ settle_head before 2063 report
  pub frames : after.frame ≡ 2064
  -- no docket is out
  pub settled : after.out ≡ 0
  -- its ONU, 20,000 bits away, is the one of place 0
  pub trip : onu.onu.trip.value ≡ 20000
  pub owner : (place_row after 0).serial ≡ onu.onu.serial
  -- in a window the ONU came 15,392 bits before the target
  pub measured : Burst
  pub heard : Contains (all_bursts cells) measured
  pub sender : measured.serial ≡ onu.onu.serial
  pub slot : measured.slot ≡ measuring_slot
  pub start : measured.start ≡ 448 * measuring_slot + 35392 - 15392
  -- the head has that as its delay, and the ONU holds it
  pub delay : (place_row after 0).delay ≡ Some 15392
  pub register : onu.onu.register.value ≡ 15392
  pub state : onu.onu.state ≡ O8
  -- in service by that report, not before
  pub waiting : (place_row before 0).phase ≡ Waiting
  pub serving : (place_row after 0).phase ≡ InService
