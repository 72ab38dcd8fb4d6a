-- Numbers as they are printed, and the texts that are read as one.
use Rattle.std.proofs.Common.{◌≡◌, ◌≢◌, ℕ, zero, suc, ◌+◌, ◌^◌, ◌<◌, ◌≤◌, Some, None, Option, Result, Ok, Err, List, [], ◌∷◌, length, get_or, MatchOption, Bool, true, false, All, sym, ap, subst, ◌∙◌, arith}
use Rattle.std.specs.Fmt.{decimal}
use Rattle.std.specs.Str.Parse.{AllDigits, digits_value, ParsesUnsigned}
use Rattle.std.proofs.lemmas.Str.Parse.{IsNumeralModel, numerals_by_value, tells_digits, not_in_digits, parse_plain}
use Rattle.std.proofs.lemmas.Fmt.{decimal_injective, decimal_is_IsNumeral, decimal_digit, first_decimal, decimal_nonempty, parse-decimal, decimal-digits_value}
use Rattle.std.specs.Result.{result_ok, OkIff}
use Rattle.field.specs.declared.bounded.Bounded.{Bounded}
use Rattle.field.specs.declared.number.Number.{Number}
use Rattle.field.specs.Bounded.{within}
use Rattle.field.specs.Number.{up_to}
use Rattle.field.proofs.Bounds.{within_is, up_to_is, within-value, up_to-value}
use Rattle.keyed.specs.Fields.{hexed}
use Rattle.keyed.specs.Hex.{exactly}
use Rattle.field.specs.declared.octets.Octets.{Octets}
use Rattle.field.specs.Octets.{octets_of}
use Rattle.field.proofs.Runs.{octets_made}
use Rattle.keyed.proofs.Again.{exact_again, exact_length, exact_hexed}

own : IsNumeralModel (AllDigits 10) (digits_value 10)
own = numerals_by_value (AllDigits 10) tells_digits

pub no_plus : (text : List ℕ) → get_or text 0 0 ≡ 43 → (n : ℕ) → n < 2 ^ 64 → decimal n ≢ text
no_plus text e n small d =
    not_in_digits own (decimal n) 43 (decimal_is_IsNumeral n small).0.1 (λ r. omega (arith, r.0, r.1)) 0 (decimal_nonempty n small) (ap (λ t. get_or t 0 0) d ∙ e)

pub no_nought : (text : List ℕ) → get_or text 0 0 ≡ 48 → 2 ≤ length text → (n : ℕ) → n < 2 ^ 64 → decimal n ≢ text
no_nought text e long zero small d = omega (arith, ap length (sym (decimal_digit 0 (omega arith)) ∙ d))
no_nought text e long (suc n) small d = omega (arith, first_decimal (suc n) (omega arith) small, ap (λ t. get_or t 0 0) d ∙ e)

pub not_both : {b : Bool} → b ≡ true → b ≡ false → ⊥
not_both e f = cc

pub one_long : (text : List ℕ) → get_or text 0 0 ≡ 48 → length text ≤ 1 → length text ≡ 1
one_long [] e h = absurd (omega (arith, e))
one_long (x ∷ text) e h = omega (arith, h)

none_some : {A : Type 0} {a : A} → None ≡ Some a → ⊥
none_some e = cc

pub one_digit : (n : ℕ) → n < 10 → decimal n ≡ (48 + n) ∷ []
one_digit n h = decimal_digit n h

err_not_ok : {T E : Type 0} (x : E) (n : T) → Err x ≢ Ok n
err_not_ok x n e = cc

-- a text without a sign and without a nought in front is the number that is parsed of it
pub parsed : {E : Type 0} (text : List ℕ) (r : Result ℕ E) (o : Option ℕ) → ParsesUnsigned 64 10 text r → o ≡ result_ok r
    → get_or text 0 0 ≢ 43 → (get_or text 0 0 ≡ 48 → length text ≡ 1)
    → MatchOption o ((n : ℕ) → n < 2 ^ 64 → decimal n ≢ text) (λ n. decimal n ≡ text)
parsed {E} text (Ok n) o p e plus lead =
    let h = parse_plain own {E = E} 64 text (Ok n) p plus in
    subst (λ m. MatchOption m ((k : ℕ) → k < 2 ^ 64 → decimal k ≢ text) (λ k. decimal k ≡ text)) (sym e)
    (ap decimal h.1 ∙ decimal-digits_value own text h.0.0 h.0.1 lead h.0.2)
parsed text (Err x) o p e plus lead =
    let none : (k : ℕ) → k < 2 ^ 64 → decimal k ≢ text = λ k small d. err_not_ok x k (parse-decimal 64 k text (Err x) small small (sym d) p) in
    subst (λ m. MatchOption m ((k : ℕ) → k < 2 ^ 64 → decimal k ≢ text) (λ k. decimal k ≡ text)) (sym e) none

above : (n : ℕ) → (n < 256 → ⊥) → 256 ≤ n
above n h = omega (arith, h)

-- two numbers with one text are one
pub same_number : (n m : ℕ) (text : List ℕ) → n < 2 ^ 64 → m < 2 ^ 64 → decimal n ≡ text → decimal m ≡ text → n ≡ m
same_number n m text h k e f = decimal_injective n m h k (e ∙ sym f)

pub bounded_text : (low high n : ℕ) (text : List ℕ) (o : Option (Bounded low high)) → high < 2 ^ 64 → n < 2 ^ 64 → o ≡ within low high n → decimal n ≡ text
    → MatchOption o ((b : Bounded low high) → Unit {0} → decimal b.value ≢ text) (λ b. decimal b.value ≡ text)
bounded_text low high n text None fits small e d = λ b u f.
    let bound : b.value < 2 ^ 64 = omega (arith, b.high) in
    none_some (e ∙ (ap (within low high) (same_number n b.value text small bound d f) ∙ within-value b))
bounded_text low high n text (Some b) fits small e d = ap decimal (within_is low high n b (sym e)) ∙ d

pub number_text : (high n : ℕ) (text : List ℕ) (o : Option (Number high)) → high < 2 ^ 64 → n < 2 ^ 64 → o ≡ up_to high n → decimal n ≡ text
    → MatchOption o ((b : Number high) → Unit {0} → decimal b.value ≢ text) (λ b. decimal b.value ≡ text)
number_text high n text None fits small e d = λ b u f.
    let bound : b.value < 2 ^ 64 = omega (arith, b.high) in
    none_some (e ∙ (ap (up_to high) (same_number n b.value text small bound d f) ∙ up_to-value b))
number_text high n text (Some b) fits small e d = ap decimal (up_to_is high n b (sym e)) ∙ d

pub tried : {E : Type 0} (n : ℕ) (r : Result ℕ E) (o : Option ℕ) → OkIff r (n < 256) n → o ≡ result_ok r → MatchOption o (256 ≤ n) (λ b. b ≡ n)
tried n (Ok m) o h e = subst (λ x. MatchOption x (256 ≤ n) (λ b. b ≡ n)) (sym e) h.1
tried n (Err x) o h e = subst (λ y. MatchOption y (256 ≤ n) (λ b. b ≡ n)) (sym e) (above n h)

pub byte_text : (n : ℕ) (text : List ℕ) (o : Option ℕ) → n < 2 ^ 64 → decimal n ≡ text → MatchOption o (256 ≤ n) (λ b. b ≡ n)
    → MatchOption o ((b : ℕ) → b < 256 → decimal b ≢ text) (λ b. decimal b ≡ text)
byte_text n text None small d large = λ b h f. omega (arith, large, h, same_number n b text small (omega arith) d f)
byte_text n text (Some b) small d same = ap decimal same ∙ d

-- no run of n bytes has a text that is read as none
pub no_bytes : (n : ℕ) (text bytes : List ℕ) → exactly n text ≡ None → length bytes ≡ n → All (λ b. b < 256) bytes → hexed bytes ≢ text
no_bytes n text bytes e long fit f = none_some (sym e ∙ (ap (exactly n) (sym f) ∙ exact_hexed n bytes long fit))

pub bytes_text : (n : ℕ) (text : List ℕ) (o : Option (List ℕ)) → o ≡ exactly n text
    → MatchOption o ((bytes : List ℕ) → (length bytes ≡ n) × All (λ b. b < 256) bytes → hexed bytes ≢ text) (λ bytes. hexed bytes ≡ text)
bytes_text n text None e = λ bytes fit. no_bytes n text bytes (sym e) fit.0 fit.1
bytes_text n text (Some bytes) e = exact_again n text bytes (sym e)

pub octets_text : (n : ℕ) (text bytes : List ℕ) (o : Octets n) → o ≡ octets_of n bytes → Some bytes ≡ exactly n text → hexed o.bytes ≡ text
octets_text n text bytes o e f =
    ap (λ x. hexed x.bytes) (e ∙ sym (octets_made n bytes (exact_length n text bytes (sym f)))) ∙ exact_again n text bytes (sym f)
