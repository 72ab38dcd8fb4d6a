-- A report that is dark but for its last record.
use Rattle.std.proofs.Common.{◌≡◌, ℕ, ◌+◌, ◌*◌, ◌<◌, ◌≤◌, List, ◌++◌, length, get_or, replicate, refl, sym, ap, ◌∙◌, subst, inl, arith}
use Rattle.std.proofs.Math.Logic.{⊎_elim}
use Rattle.std.proofs.lemmas.Bool.{cases_lt}
use Rattle.std.proofs.lemmas.List.{get_or-replicate, get_or_append_left, length-replicate}
use Rattle.std.proofs.lemmas.List.Edits.{get_or-between}
use Rattle.std.specs.List.{between}
use Rattle.field.specs.Octets.{octets_of}
use Rattle.plant.specs.declared.burst.Burst.{Burst}
use Rattle.report.proofs.Again.{again}
use Rattle.report.specs.Record.{record_of, record_bytes, Holds}
use Rattle.report.specs.declared.offset.Offset.TheVariants.{Late}
use Rattle.report.specs.declared.record.Light.TheVariants.{Dark}
use Rattle.report.specs.declared.record.Record.{Record}
use Rattle.line.specs.Run.{TrueRecord, TrueReport}

-- no light
abbrev pub dark : Record
dark = record { light = Dark; parity = 0; offset = Late 0; message = octets_of 12 (replicate 12 0) }

-- 52 dark records and this one
unfoldable pub report_of : Record → List ℕ
report_of x = replicate 936 0 ++ record_bytes x

-- 954 bytes
pub report-length : (x : Record) → length (report_of x) ≡ 954
unfolding report_of record_bytes
report-length x = refl

-- a byte before the last record
early_byte : (x : Record) (k i : ℕ) → k < 52 → i < 18 → get_or (between (18 * k) (18 * k + 18) (report_of x)) i 0 ≡ 0
unfolding report_of
early_byte x k i h l =
    get_or-between (replicate 936 0 ++ record_bytes x) (18 * k) (18 * k + 18) i 0 (omega arith)
    ∙ get_or_append_left (replicate 936 0) (record_bytes x) 0 (18 * k + i) (omega (arith, length-replicate {A = ℕ} 936 0))
    ∙ get_or-replicate 936 (18 * k + i) 0 0 (omega arith)

-- the first 52 records
early_dark : (x : Record) (k : ℕ) → k < 52 → (record_of (between (18 * k) (18 * k + 18) (report_of x))).light ≡ Dark
early_dark x k h = rw (early_byte x k 0 h (omega arith), early_byte x k 1 h (omega arith))

-- the last 18 bytes
last_bytes : (x : Record) → between 936 954 (report_of x) ≡ record_bytes x
unfolding report_of record_bytes
last_bytes x = refl

-- the last record
pub last_record : (x : Record) → x.parity ≤ 8 → Holds x.offset → record_of (between 936 954 (report_of x)) ≡ x
last_record x p o = ap record_of (last_bytes x) ∙ again x p o

-- it is true if its last record is
pub report_true : (bursts : List Burst) (F : ℕ) (x : Record) → x.parity ≤ 8 → Holds x.offset → TrueRecord bursts (53 * F + 52) x → TrueReport bursts F (report_of x)
report_true bursts F x p o t k h = ⊎_elim
    (λ (l : k < 52). inl (early_dark x k l))
    (λ (l : 52 ≤ k).
    let e : 52 ≡ k = omega arith in
    subst (λ n. TrueRecord bursts (53 * F + n) (record_of (between (18 * n) (18 * n + 18) (report_of x)))) e
    (subst (TrueRecord bursts (53 * F + 52)) (sym (last_record x p o)) t))
    (cases_lt k 52)

-- a report without light is always true
pub dark_true : (bursts : List Burst) (F : ℕ) → TrueReport bursts F (report_of dark)
dark_true bursts F = report_true bursts F dark (omega arith) (omega arith) (inl refl)
