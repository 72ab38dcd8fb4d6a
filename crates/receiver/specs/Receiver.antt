-- The bench receiver: what a report says of the bursts that came.
use Rattle.std.specs.Prelude.{ℕ, zero, suc, ◌+◌, ◌*◌, cond, List, [], ◌∷◌, ◌++◌, replicate, Some, None, Option, ◌==◌, slice_index, filter}
use Rattle.field.specs.Octets.{octets_of}
use Rattle.onu.specs.declared.answer.Kind.{Kind}
use Rattle.onu.specs.declared.answer.Kind.TheVariants.{Ploam, Data}
use Rattle.plant.specs.declared.burst.Burst.{Burst}
use Rattle.report.specs.Offset.{offset_between}
use Rattle.report.specs.Record.{record_bytes}
use Rattle.report.specs.declared.offset.Offset.{Offset}
use Rattle.report.specs.declared.offset.Offset.TheVariants.{Late}
use Rattle.report.specs.declared.record.Light.{Light}
use Rattle.report.specs.declared.record.Light.TheVariants.{Dark, Broken, Ploam as PloamCell, Data as DataCell}
use Rattle.report.specs.declared.record.Record.{Record}
use Rattle.receiver.specs.declared.receive.ReceiveFault.{ReceiveFault}
use Rattle.receiver.specs.declared.receive.ReceiveFault.TheVariants.{Length}

-- the number of the refusal
abbrev pub receive_refusal : ReceiveFault → ℕ
receive_refusal Length = 14

-- a record of nothing but its light: all else is 0
unfoldable pub blank : Light → Record
blank light = record { light = light; parity = 0; offset = Late 0; message = octets_of 12 (replicate 12 0) }

-- no light, and light that is no cell
abbrev pub dark : Record
dark = blank Dark

abbrev pub broken : Record
broken = blank Broken

abbrev pub light_for : Kind → Light
light_for Ploam = PloamCell
light_for Data = DataCell

-- a burst is a cell with the offset of its start from the target, 35,392 bits after its slot, if the record can hold that
abbrev pub at_offset : Option Offset → Burst → Record
at_offset None b = broken
at_offset (Some offset) b = record { light = light_for b.kind; parity = 0; offset = offset; message = b.message }

abbrev pub burst_record : Burst → ℕ → Record
burst_record b n = at_offset (offset_between b.start (448 * n + 35392)) b

-- a slot by the bursts that answer it: two or more break each other
abbrev pub found_record : List Burst → ℕ → Record
found_record [] n = dark
found_record (b ∷ []) n = burst_record b n
found_record (b ∷ c ∷ more) n = broken

-- the bursts that answer a slot
abbrev pub answering : ℕ → List Burst → List Burst
answering n bs = filter (λ b. b.slot == n) bs

-- slot x of a frame, counted from 0; a marked slot is dark
unfoldable pub slot_record : (frame x : ℕ) → List Burst → (mark : ℕ) → Record
slot_record frame x bs mark = cond (mark == 0) (found_record (answering (53 * frame + x) bs) (53 * frame + x)) dark

-- the records of the first k slots
unfoldable pub reported : (frame : ℕ) → List Burst → (marks : List ℕ) → (k : ℕ) → List ℕ
reported frame bs marks zero = []
reported frame bs marks (suc k) = reported frame bs marks k ++ record_bytes (slot_record frame k bs (slice_index marks k))
