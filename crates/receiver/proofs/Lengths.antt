-- How long a report is.
use Rattle.std.proofs.Common.{◌≡◌, ℕ, zero, suc, ◌*◌, List, length, slice_index, refl, arith}
use Rattle.std.proofs.lemmas.List.{length-append}
use Rattle.std.proofs.lemmas.List.FromFn.{length-map-range_with_len}
use Rattle.plant.specs.declared.burst.Burst.{Burst}
use Rattle.receiver.specs.Receiver.{slot_record, reported}
use Rattle.report.specs.Record.{record_bytes}
use Rattle.report.specs.declared.record.Record.{Record}

-- 18 bytes for each slot
pub record-length : (r : Record) → length (record_bytes r) ≡ 18
unfolding record_bytes
record-length r = let l = length-map-range_with_len (λ k. slice_index r.message.bytes k) 0 12 in omega arith

pub reported-length : (frame : ℕ) (bs : List Burst) (marks : List ℕ) (k : ℕ) → length (reported frame bs marks k) ≡ 18 * k
unfolding reported
reported-length frame bs marks zero = refl
reported-length frame bs marks (suc k) =
    let h = reported-length frame bs marks k in
    let l = record-length (slot_record frame k bs (slice_index marks k)) in
    simp length-append (omega arith)
