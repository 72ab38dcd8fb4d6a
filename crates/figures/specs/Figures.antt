-- Figures of the line, each computed from the definitions that the contracts cite.
use Rattle.std.specs.Prelude.{◌≡◌, ℕ, ◌*◌, Bool, true, false, List, [], ◌∷◌, replicate, Some, None, Option}
use Rattle.std.specs.List.{All, fold}
use Rattle.field.specs.Check.{check_of}
use Rattle.field.specs.Number.{capped}
use Rattle.field.specs.Octets.{octets_of}
use Rattle.report.specs.declared.offset.Offset.{Offset}
use Rattle.report.specs.declared.offset.Offset.TheVariants.{Early, Late}
use Rattle.report.specs.declared.record.Light.{Light}
use Rattle.report.specs.declared.record.Light.TheVariants.{Dark, Ploam, Data}
use Rattle.report.specs.declared.record.Record.{Record}
use Rattle.rules.specs.Row.{Serial, entered, serving}
use Rattle.rules.specs.Schedule.{Place, slot_number, window, last, owner, message_place}
use Rattle.rules.specs.Settings.{first_settings}
use Rattle.rules.specs.Settle.{row_after}
use Rattle.rules.specs.declared.job.Job.{Job}
use Rattle.rules.specs.declared.job.Job.TheVariants.{BringUp, Tell, Stop}
use Rattle.rules.specs.declared.row.Phase.TheVariants.{InService}
use Rattle.rules.specs.declared.row.Row.{Row}
use Rattle.upstream.specs.Message.{bytes_of}
use Rattle.upstream.specs.declared.message.Upstream.TheVariants.{SerialNumberOnu}

-- one ONU's serial number
abbrev pub its_serial : Serial
its_serial = capped 18446744073709551615 81985529216486895

-- a record at an offset; its message tells the ONU's serial number
abbrev pub heard : Light → Offset → Record
heard l o = record { light = l; parity = 0; offset = o; message = octets_of 12 (bytes_of (SerialNumberOnu None its_serial)) }

-- the ONU's place while a job runs
abbrev pub at_work : Job → Row
at_work j = record (entered its_serial) { running = Some j; next = None }

-- and while the ONU is in service
abbrev pub at_service : Row
at_service = record (entered its_serial) { phase = InService; next = None }

-- after a PLOAM cell in the last slot of its window, X 53 of frame 15
abbrev pub after_window : (guard : ℕ) → Job → Offset → Row
after_window guard j o = row_after guard 20 15 53 (heard Ploam o) (at_work j)

-- after the record of a data slot, X 2 of frame 16
abbrev pub after_slot : (guard : ℕ) → Row → Record → Row
after_slot guard r x = row_after guard 20 16 2 x r

-- what comes after bring-up, by the delay that was measured
abbrev pub next_job : Option ℕ → Job
next_job None = Stop
next_job (Some d) = Tell

-- a place's number, if there is a place
abbrev pub number_of : Option Place → Option ℕ
number_of None = None
number_of (Some p) = Some p.value

-- what can be looked up, with what is found
pub data Figure : Type 0 where
  -- some bytes and their check byte
  checks : List ℕ → ℕ → Figure
  -- the number of the slot at X of frame F, and its first bit
  numbers : (F X slot bit : ℕ) → Figure
  -- a window of place p ends in frame F
  opens : (p F : ℕ) → Figure
  -- X 1 of frame F is the PLOAM turn of place p
  turns : (F p : ℕ) → Figure
  -- the two messages of frame F are of places p and q
  carries : (F p q : ℕ) → Figure
  -- bring-up measures this delay at an offset, or fails
  measures : Offset → Option ℕ → Figure
  -- tell succeeds at an offset, or fails
  confirms : (guard : ℕ) → Offset → Bool → Figure
  -- a data cell at an offset raises CPE, or not
  raises_cpe : (guard : ℕ) → Offset → Bool → Figure
  -- so many dark records in succession raise LOS, or not
  raises_los : ℕ → Bool → Figure

-- what a figure says; a slot has 448 bits
abbrev pub Holds : Figure → Type 0
Holds (checks bytes byte) = check_of bytes ≡ byte
Holds (numbers F X slot bit) = (slot_number F X ≡ slot) × (448 * slot ≡ bit)
Holds (opens p F) = (last F 53 ≡ true) × (number_of (owner first_settings F 53) ≡ Some p)
Holds (turns F p) = (window F 1 ≡ false) × (number_of (owner first_settings F 1) ≡ Some p)
Holds (carries F p q) = ((message_place F 0).value ≡ p) × ((message_place F 1).value ≡ q)
Holds (measures o d) = ((after_window 4 BringUp o).delay ≡ d) × ((after_window 4 BringUp o).next ≡ Some (next_job d))
Holds (confirms guard o b) = serving (after_window guard Tell o) ≡ b
Holds (raises_cpe guard o b) = (after_slot guard at_service (heard Data o)).alarms.cpe ≡ b
Holds (raises_los n b) = (fold (after_slot 4) at_service (replicate n (heard Dark (Late 0)))).alarms.los ≡ b

-- the list
abbrev pub figures : List Figure
figures =
    checks (0 ∷ 0 ∷ 0 ∷ 0 ∷ 0 ∷ 0 ∷ 0x0D ∷ []) 0x23
    ∷ numbers 1 1 53 23744
    ∷ opens 0 15
    ∷ opens 1 31
    ∷ opens 63 1023
    ∷ opens 0 1039
    ∷ turns 14 14
    ∷ turns 16 15
    ∷ turns 68 0
    ∷ carries 31 62 63
    ∷ measures (Early 32000) (Some 32000)
    ∷ measures (Early 32001) None
    ∷ measures (Late 1) None
    ∷ confirms 8 (Early 2) true
    ∷ confirms 8 (Late 2) true
    ∷ confirms 8 (Early 3) false
    ∷ confirms 8 (Late 3) false
    ∷ raises_cpe 8 (Early 4) false
    ∷ raises_cpe 8 (Late 4) false
    ∷ raises_cpe 8 (Early 5) true
    ∷ raises_cpe 8 (Late 5) true
    ∷ raises_los 7 false
    ∷ raises_los 8 true
    ∷ []

-- each of them holds
abbrev pub Figures : Type 0
Figures = All Holds figures
