-- Frames in which nothing is granted, of one ONU at place 0 on a head with nobody else.
use Rattle.std.proofs.Common.{◌≡◌, ℕ, zero, suc, ◌+◌, ◌/◌, ◌%◌, Bool, true, false, not, cond, ◌&&◌, ◌||◌, refl, Some, None, Option, lit≤}
use Rattle.std.specs.Prelude.{◌==◌, is_some}
use Rattle.field.specs.Bounded.{within}
use Rattle.field.specs.Delay.{Delay}
use Rattle.field.specs.Number.{nought}
use Rattle.field.specs.declared.number.Number.{Number}
use Rattle.message.specs.declared.downstream.Downstream.{Downstream}
use Rattle.message.specs.declared.downstream.Downstream.TheVariants.{NoMessage, RangingTime}
use Rattle.onu.specs.Onu.{new_onu}
use Rattle.onu.specs.declared.state.State.TheVariants.{O7, O8}
use Rattle.plant.specs.Lawful.{acted}
use Rattle.bench.specs.Bench.{woken, ticked, new_machine}
use Rattle.bench.specs.declared.machine.Machine.{Machine}
use Rattle.rules.specs.Clamp.{clamped}
use Rattle.rules.specs.Job.{begun, job_message}
use Rattle.rules.specs.Row.{entered, serving}
use Rattle.rules.specs.Schedule.{Place, place_of, turn}
use Rattle.rules.specs.Settings.{first_settings}
use Rattle.rules.specs.declared.job.Job.{Job}
use Rattle.rules.specs.declared.job.Job.TheVariants.{BringUp, Tell, Stop, Hold, Free}
use Rattle.rules.specs.declared.row.Row.{Row}

-- the head's next frame, the record of place 0, and the ONU
pub record Stage : Type 0 where
  pub frame : ℕ
  pub row : Row
  pub machine : Machine

-- its place
abbrev pub place_0 : Place
place_0 = place_of 0

-- the record in a frame
abbrev pub row_in : ℕ → Row → Row
row_in F r = cond (F % 1024 == 23) (begun r) r

-- what the place says, where x is what it says first while tell runs
abbrev pub job_said : Downstream → Row → Job → ℕ → Downstream
job_said x r BringUp k = job_message first_settings place_0 r BringUp k
job_said x r Tell k = cond (k == 0) x NoMessage
job_said x r Stop k = job_message first_settings place_0 r Stop k
job_said x r Hold k = job_message first_settings place_0 r Hold k
job_said x r Free k = job_message first_settings place_0 r Free k

-- nothing without a running job
abbrev pub running_said : Downstream → Row → Option Job → ℕ → Downstream
running_said x r None k = NoMessage
running_said x r (Some j) k = job_said x r j k

-- the message of the first cell
abbrev pub said : Downstream → ℕ → Row → Downstream
said x F r = cond (F % 32 == 0) (running_said x r r.running (turn F place_0.value / 3)) NoMessage

-- the ONU after a cell with this message
abbrev pub after_message : Downstream → Machine → Machine
after_message m s = ticked (acted (Some m) (woken s)) s.ranging s.popup

-- out of service, and no job ends with the frame
abbrev pub spare : ℕ → Row → Bool
spare F r = not (serving r) && (not (F % 1024 == 15) || not (is_some r.running))

-- such a frame, sent and settled
abbrev pub passed : Downstream → Stage → Stage
passed x s =
    record {
      frame = s.frame + 1;
      row = row_in s.frame s.row;
      machine = after_message NoMessage (after_message (said x s.frame (row_in s.frame s.row)) s.machine);
    }

-- n frames, if all of them are spare
unfoldable pub after : Downstream → ℕ → Stage → Option Stage
after x zero s = Some s
after x (suc n) s = elim (spare s.frame (row_in s.frame s.row)) [ true ↦ after x n (passed x s) | false ↦ None ]

-- the ONU's number
abbrev pub serial_7 : Number 18446744073709551615
serial_7 = record { value = 7; high = lit≤ tt }

-- its round trip
abbrev pub bits_20000 : Number 1000000
bits_20000 = record { value = 20000; high = lit≤ tt }

-- the delay that it is told
abbrev pub delay_15392 : Delay
delay_15392 = record { value = 15392; high = lit≤ tt }

-- entered at place 0, before frame 0
abbrev pub first : Stage
first = record { frame = 0; row = entered serial_7; machine = new_machine serial_7 bits_20000 }

-- told its PON_ID and codes, before its window of frame 1,039
abbrev pub brought : Stage
brought =
    record {
      frame = 1039;
      row = record (entered serial_7) { running = Some BringUp; next = None };
      machine = record {
        onu = record (new_onu serial_7 bits_20000) { state = O7; id = Some place_0; grant = Some (clamped 252 0); ploam = Some (clamped 252 64) };
        fresh = false;
        ranging = 2013;
        popup = 0;
      };
    }

-- computed frame by frame
pub brought_after : after NoMessage 1039 first ≡ Some brought
unfolding after woken clamped within nought
brought_after = refl

-- measured, when frame 1,039 is settled
abbrev pub measured : Stage
measured =
    record {
      frame = 1040;
      row = record (entered serial_7) { running = None; next = Some Tell; delay = Some 15392 };
      machine = record brought.machine { ranging = 2015 };
    }

-- told its delay, before its window of frame 2,063
abbrev pub told : Stage
told =
    record {
      frame = 2063;
      row = record (entered serial_7) { running = Some Tell; next = None; delay = Some 15392 };
      machine = record { onu = record brought.machine.onu { state = O8; register = delay_15392 }; fresh = false; ranging = 0; popup = 0 };
    }

-- computed frame by frame
pub told_after : after (RangingTime place_0 delay_15392) 1023 measured ≡ Some told
unfolding after woken clamped within nought
told_after = refl
