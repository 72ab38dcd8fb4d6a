-- A report grows by one record a slot.
use Rattle.std.proofs.Common.{◌≡◌, ℕ, ◌+◌, ◌*◌, ◌<◌, List, [], ◌++◌, length, get_or, take, refl, add-one, arith}
use borrow.Rule.Slice.PartMut.{put_mid}
use Rattle.std.proofs.lemmas.Slice.{take-put_mid}
use Rattle.plant.specs.declared.burst.Burst.{Burst}
use Rattle.report.specs.Record.{record_bytes}
use Rattle.receiver.specs.Receiver.{slot_record, reported}

pub reported_none : (frame : ℕ) (bs : List Burst) (marks : List ℕ) → reported frame bs marks 0 ≡ []
unfolding reported
reported_none frame bs marks = refl

reported_more : (frame : ℕ) (bs : List Burst) (marks : List ℕ) (k : ℕ) → reported frame bs marks (k + 1) ≡ reported frame bs marks k ++ record_bytes (slot_record frame k bs (get_or marks k 0))
unfolding reported
reported_more frame bs marks k = rw add-one

pub one_more : (frame : ℕ) (bs : List Burst) (marks : List ℕ) (x k : ℕ) (old new : List ℕ) → length old ≡ 954 → x < 53 → length new ≡ 18
    → take (18 * x) old ≡ reported frame bs marks x → new ≡ record_bytes (slot_record frame x bs (get_or marks x 0))
    → take (18 * (x + 1)) (put_mid (18 * x) k old new) ≡ reported frame bs marks (x + 1)
one_more frame bs marks x k old new l h m e d =
    rw (take-put_mid (18 * x) k old new (18 * (x + 1)) (omega arith) (omega arith), e, d, reported_more)
