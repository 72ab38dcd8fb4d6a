-- A grant and its byte stand for each other.
use Rattle.std.proofs.Common.{◌≡◌, ℕ, ◌<◌, ◌≤◌, None, refl, ap, ◌∙◌, ⊎_elim, arith, lit<}
use mathlib.Core.Path.{subst⁻¹}
use Rattle.std.proofs.lemmas.Bool.{cases_lt, cases_eq}
use Rattle.field.specs.declared.grant.Grant.{Grant}
use Rattle.field.specs.declared.grant.Grant.TheVariants.{Code, Ranging, Unassigned, Idle}
use Rattle.field.specs.Grant.{ordinary, grant_of, code_of}
use Rattle.field.proofs.Bounds.{within_in, within-high, within-value}

pub grant_again : (g : Grant) → grant_of (code_of g) ≡ g
grant_again (Code c) = ap (λ o. ordinary o c.value) (within-value c)
grant_again Ranging = ap (λ o. ordinary o 253) (within-high 0 252 253 (lit< tt))
grant_again Unassigned = ap (λ o. ordinary o 254) (within-high 0 252 254 (lit< tt))
grant_again Idle = ap (λ o. ordinary o 255) (within-high 0 252 255 (lit< tt))

same : (n m : ℕ) → n ≡ m → code_of (ordinary None m) ≡ m → code_of (ordinary None n) ≡ n
same n m e = subst⁻¹ (λ (x : ℕ). code_of (ordinary None x) ≡ x) e

special : (n : ℕ) → 252 < n → n < 256 → code_of (ordinary None n) ≡ n
special n h k =
    ⊎_elim (λ (e : n ≡ 253). same n 253 e refl)
    (λ (u : n ≡ 253 → ⊥). ⊎_elim (λ (e : n ≡ 254). same n 254 e refl) (λ (v : n ≡ 254 → ⊥). same n 255 (omega arith) refl) (cases_eq n 254))
    (cases_eq n 253)

pub code_again : (n : ℕ) → n < 256 → code_of (grant_of n) ≡ n
code_again n h =
    ⊎_elim
    (λ (a : n < 253). let k : n ≤ 252 = omega arith in let z : 0 ≤ n = omega arith in ap (λ o. code_of (ordinary o n)) (within_in 0 252 n z k))
    (λ (b : 253 ≤ n). let k : 252 < n = omega arith in ap (λ o. code_of (ordinary o n)) (within-high 0 252 n k) ∙ special n k h)
    (cases_lt n 253)
