-- The codes of a frame, slot by slot, and places by their numbers.
use Rattle.std.proofs.Common.{◌≡◌, ℕ, zero, suc, ◌+◌, ◌<◌, List, get_or, length, Some, refl, sym, ap, ◌∙◌, arith}
use Rattle.field.proofs.Bounds.{within-value}
use Rattle.field.specs.Bounded.{within}
use Rattle.field.specs.Grant.{code_of}
use Rattle.head.specs.Table.{grant_in, codes_from}
use Rattle.rules.specs.Schedule.{Place}
use Rattle.rules.specs.declared.row.Row.{Row}
use Rattle.rules.specs.declared.settings.Settings.{Settings}

pub codes-length : (s : Settings) (rows : List Row) (F X n : ℕ) → length (codes_from s rows F X n) ≡ n
unfolding codes_from
codes-length s rows F X zero = refl
codes-length s rows F X (suc n) = ap suc (codes-length s rows F (suc X) n)

pub codes_at : (s : Settings) (rows : List Row) (F X n i d : ℕ) → i < n → get_or (codes_from s rows F X n) i d ≡ code_of (grant_in s rows F (X + i))
unfolding codes_from
codes_at s rows F X zero i d h = absurd (omega arith)
codes_at s rows F X (suc n) zero d h = ap (λ k. code_of (grant_in s rows F k)) (omega arith)
codes_at s rows F X (suc n) (suc i) d h =
    codes_at s rows F (suc X) n i d (omega arith) ∙ ap (λ k. code_of (grant_in s rows F k)) (omega arith)

-- places with one number are one
pub place_one : (p q : Place) → p.value ≡ q.value → p ≡ q
place_one p q e = let s : Some p ≡ Some q = sym (within-value p) ∙ (ap (within 0 63) e ∙ within-value q) in cc
