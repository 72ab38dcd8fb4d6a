-- Numbers that are known to fit.
use Rattle.std.proofs.Common.{refl, ◌≡◌, ℕ, ◌+◌, ◌*◌, ◌%◌, ◌≤◌, min, Bool, true, false, cond, ap, arith, Some, None, ◌∙◌, sym}
use Rattle.std.proofs.lemmas.Bool.Decides.{nat_tests}
use Rattle.field.specs.Bounded.{within}
use Rattle.field.proofs.Bounds.{within-value, within_in}
use Rattle.rules.specs.Clamp.{clamped}
use Rattle.rules.specs.Schedule.{place_of}
use Rattle.rules.specs.Settings.{guard4, guard_of, guard_fits}

pub clamped-value : (high n : ℕ) → (clamped high n).value ≡ min n high
unfolding clamped
clamped-value high n = refl

pub clamped_within : (high n : ℕ) → within 0 high (min n high) ≡ Some (clamped high n)
clamped_within high n = ap (within 0 high) (sym (clamped-value high n)) ∙ within-value (clamped high n)

-- a number that fits is kept
pub clamped_keeps : (high n : ℕ) → n ≤ high → (clamped high n).value ≡ n
clamped_keeps high n h = omega (arith, clamped-value high n)

pub place-value : (n : ℕ) → (place_of n).value ≡ n % 64
place-value n = clamped_keeps 63 (n % 64) (omega arith)

-- only the remainder matters
pub place_same : (m n : ℕ) → m % 64 ≡ n % 64 → place_of m ≡ place_of n
place_same m n e = ap (clamped 63) e

pub four_within : within 4 24 4 ≡ Some guard4
four_within = within-value guard4

-- what lies between the bounds is something
within_some : (n : ℕ) → 4 ≤ n → n ≤ 24 → within 4 24 n ≡ None → ⊥
within_some n low high e = let some = sym (within_in 4 24 n low high) ∙ e in cc

-- what is no guard is none of the four
pub guard_none : (n : ℕ) → guard_of n ≡ None → guard_fits n ≡ false
guard_none n e = by_fit (guard_fits n) refl e
  where
    by_fit : (b : Bool) → guard_fits n ≡ b → cond b (within 4 24 n) None ≡ None → b ≡ false
    by_fit false f e = refl
    by_fit true f e = absurd (within_some n (grind (arith, nat_tests)) (grind (arith, nat_tests)) e)

-- of a frame number the remainder by 32 is enough
pub message_same : (F j : ℕ) → place_of (F % 32 * 2 + j % 64) ≡ place_of (2 * F + j)
message_same F j = place_same (F % 32 * 2 + j % 64) (2 * F + j) (omega arith)
