-- What holds of a reading, from what holds of its parts.
use Rattle.std.proofs.Common.{◌≡◌, ℕ, cond, eqb, IfOk, Some, None, Ok, Err, Option, Result, refl}
use Rattle.std.specs.Option.{ok_or}
use Rattle.std.proofs.lemmas.Bool.{eqb-true, cond_both}
use Rattle.field.specs.Bounded.{within}
use Rattle.field.specs.Bytes.{then}
use Rattle.field.proofs.Bounds.{within_is}

-- one part after another
pub then_made : {A B E : Type 0} (Q : A → Type 0) (P : B → Type 0) (r : Result A E) (f : A → Result B E) → IfOk r Q → ((a : A) → Q a → IfOk (f a) P) → IfOk (then r f) P
then_made Q P (Ok a) f h k = k a h
then_made Q P (Err e) f h k = tt

-- a number that decides
pub test_made : {B E : Type 0} (P : B → Type 0) (n m : ℕ) (x y : Result B E) → (n ≡ m → IfOk x P) → IfOk y P → IfOk (cond (eqb n m) x y) P
test_made P n m x y h k = cond_both (eqb n m) x y (λ r. IfOk r P) (λ e. h (eqb-true n m e)) (λ _. k)

-- a field that may be none
pub ok_or_made : {A E : Type 0} (Q : A → Type 0) (o : Option A) (e : E) → ((x : A) → o ≡ Some x → Q x) → IfOk (ok_or o e) Q
ok_or_made Q (Some x) e h = h x refl
ok_or_made Q None e h = tt

pub within_made : {E : Type 0} (low high n : ℕ) (e : E) → IfOk (ok_or (within low high n) e) (λ x. x.value ≡ n)
within_made low high n e = ok_or_made (λ x. x.value ≡ n) (within low high n) e (within_is low high n)
