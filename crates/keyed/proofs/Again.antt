-- Digits and the bytes that are read of them.
use Rattle.std.proofs.Common.{eq-eqb, length, ◌==◌, Bool, true, false, cond, ◌≡◌, ℕ, suc, ◌+◌, ◌*◌, ◌/◌, ◌%◌, ◌<◌, Some, None, Option, List, [], ◌∷◌, All, refl, sym, ap, ◌∙◌, arith}
use Rattle.std.proofs.lemmas.Bool.Decides.{nat_tests}
use Rattle.std.specs.Char.{digit_char}
use Rattle.keyed.specs.Fields.{hexed}
use Rattle.keyed.specs.Hex.{digit, both, pair, unhexed, exactly, BytesAndDigitsAgree}

digit_again : (d : ℕ) → d < 16 → digit (digit_char d) ≡ Some d
digit_again d h = grind (arith, nat_tests)

char_again : (c v : ℕ) → digit c ≡ Some v → (digit_char v ≡ c) × (v < 16)
char_again c v e = grind (arith, nat_tests)

pair_again : (b : ℕ) → b < 256 → pair (digit_char (b / 16)) (digit_char (b % 16)) ≡ Some b
pair_again b h =
    let e : b / 16 * 16 + b % 16 ≡ b = omega arith in
    ap (λ o. both (λ x y. x * 16 + y) o (digit (digit_char (b % 16)))) (digit_again (b / 16) (omega arith))
    ∙ (ap (both (λ x y. x * 16 + y) (Some (b / 16))) (digit_again (b % 16) (omega arith)) ∙ ap Some e)

-- both values of a pair that is there
both_there : {A B C : Type 0} (f : A → B → C) (o : Option A) (p : Option B) (r : C) → both f o p ≡ Some r → (a : A) × (b : B) × (o ≡ Some a) × (p ≡ Some b) × (f a b ≡ r)
both_there f None p r e = absurd (cc)
both_there f (Some a) None r e = absurd (cc)
both_there f (Some a) (Some b) r e = (a, b, refl, refl, cc)

pair_digits : (high low b : ℕ) → pair high low ≡ Some b → (digit_char (b / 16) ≡ high) × (digit_char (b % 16) ≡ low)
pair_digits high low b e =
    let h = both_there (λ x y. x * 16 + y) (digit high) (digit low) b e in
    let up = char_again high h.0 h.2 in
    let down = char_again low h.1 h.3 in
    let q : b / 16 ≡ h.0 = omega (arith, h.4, up.1, down.1) in
    let m : b % 16 ≡ h.1 = omega (arith, h.4, up.1, down.1) in
    (ap digit_char q ∙ up.0, ap digit_char m ∙ down.0)

read_again : (bytes : List ℕ) → All (λ b. b < 256) bytes → unhexed (hexed bytes) ≡ Some bytes
unfolding unhexed hexed
read_again [] h = refl
read_again (b ∷ bytes) h =
    ap (λ o. both (λ x xs. x ∷ xs) o (unhexed (hexed bytes))) (pair_again b (h 0 0 (omega arith)))
    ∙ ap (both (λ x xs. x ∷ xs) (Some b)) (read_again bytes (λ k d l. h (suc k) d (omega arith)))

some_nil : (bytes : List ℕ) → Some [] ≡ Some bytes → [] ≡ bytes
some_nil bytes e = cc

digits_again : (text bytes : List ℕ) → unhexed text ≡ Some bytes → hexed bytes ≡ text
unfolding unhexed hexed
digits_again [] bytes e = ap hexed (sym (some_nil bytes e))
digits_again (high ∷ []) bytes e = absurd (cc)
digits_again (high ∷ (low ∷ rest)) bytes e =
    let h = both_there (λ x xs. x ∷ xs) (pair high low) (unhexed rest) bytes e in
    let two = pair_digits high low h.0 h.2 in
    ap hexed (sym h.4) ∙ (ap (λ c. c ∷ (digit_char (h.0 % 16) ∷ hexed h.1)) two.0 ∙ (ap (λ c. high ∷ (c ∷ hexed h.1)) two.1 ∙ ap (λ more. high ∷ (low ∷ more)) (digits_again rest h.1 h.3)))

pub agree : BytesAndDigitsAgree
agree = (read_again, digits_again)

-- a text of just n bytes is what is written of them
pub exact_again : (n : ℕ) (text bytes : List ℕ) → exactly n text ≡ Some bytes → hexed bytes ≡ text
exact_again n text bytes = pick (length text == 2 * n)
  where
    pick : (b : Bool) → cond b (unhexed text) None ≡ Some bytes → hexed bytes ≡ text
    pick true e = digits_again text bytes e
    pick false e = absurd (cc)

hexed_length : (bytes : List ℕ) → length (hexed bytes) ≡ 2 * length bytes
unfolding hexed
hexed_length [] = refl
hexed_length (b ∷ bytes) = omega (arith, hexed_length bytes)

-- and those are n bytes
pub exact_length : (n : ℕ) (text bytes : List ℕ) → exactly n text ≡ Some bytes → length bytes ≡ n
exact_length n text bytes e = omega (arith, ap length (exact_again n text bytes e), hexed_length bytes, long n text bytes e)
  where
    long : (n : ℕ) (text bytes : List ℕ) → exactly n text ≡ Some bytes → length text ≡ 2 * n
    long n text bytes e = grind (arith, nat_tests)

-- n bytes that are written are read again
pub exact_hexed : (n : ℕ) (bytes : List ℕ) → length bytes ≡ n → All (λ b. b < 256) bytes → exactly n (hexed bytes) ≡ Some bytes
exact_hexed n bytes long fit =
    let e : length (hexed bytes) ≡ 2 * n = omega (arith, hexed_length bytes) in
    ap (λ b. cond b (unhexed (hexed bytes)) None) (eq-eqb (length (hexed bytes)) (2 * n) e) ∙ read_again bytes fit
