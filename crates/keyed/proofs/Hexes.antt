-- The digits of bytes, one byte after another.
use Rattle.std.proofs.Common.{◌≡◌, ℕ, ◌+◌, ◌/◌, ◌%◌, ◌<◌, zero, suc, List, [], ◌∷◌, ◌++◌, length, get_or, take, refl, ap, ◌∙◌, arith}
use Rattle.std.specs.Char.{digit_char}
use Rattle.std.specs.Str.{IsUtf8}
use Rattle.std.proofs.lemmas.Str.{IsUtf8-from_ascii}
use Rattle.std.proofs.lemmas.List.{take_more}
use Rattle.keyed.specs.Fields.{hexed}

pub hexed_none : hexed [] ≡ []
unfolding hexed
hexed_none = refl

pub hexed-append : (xs ys : List ℕ) → hexed (xs ++ ys) ≡ hexed xs ++ hexed ys
unfolding hexed
hexed-append [] ys = refl
hexed-append (x ∷ xs) ys = ap (λ zs. digit_char (x / 16) ∷ digit_char (x % 16) ∷ zs) (hexed-append xs ys)

-- the digits of one byte more
pub hexed_more :
    (xs : List ℕ) (i : ℕ)
    → i < length xs
    → hexed (take (i + 1) xs) ≡ hexed (take i xs) ++ digit_char (get_or xs i 0 / 16) ∷ digit_char (get_or xs i 0 % 16) ∷ []
unfolding hexed
hexed_more xs i h = ap hexed (take_more xs i 0 h) ∙ hexed-append (take i xs) (get_or xs i 0 ∷ [])

digit_small : (d : ℕ) → d < 16 → digit_char d < 128
digit_small d h = grind arith

digits_small : (bytes : List ℕ) → ((i : ℕ) → get_or bytes i 0 < 256) → (i : ℕ) → get_or (hexed bytes) i 0 < 128
unfolding hexed
digits_small [] small i = omega arith
digits_small (b ∷ bytes) small zero = let h : b < 256 = small 0 in digit_small (b / 16) (omega arith)
digits_small (b ∷ bytes) small (suc zero) = digit_small (b % 16) (omega arith)
digits_small (b ∷ bytes) small (suc (suc i)) = digits_small bytes (λ k. small (suc k)) i

-- digits are a text
pub hexed_utf8 : (bytes : List ℕ) → ((i : ℕ) → get_or bytes i 0 < 256) → IsUtf8 (hexed bytes)
hexed_utf8 bytes small = IsUtf8-from_ascii (hexed bytes) (digits_small bytes small)
