-- What hex digits say.
use Rattle.std.specs.Prelude.{◌≡◌, ◌<◌, All, ℕ, ◌+◌, ◌-◌, ◌*◌, ◌&&◌, Bool, cond, Some, None, Option, List, [], ◌∷◌, ◌++◌, length, map, nat_le, ◌==◌}
use Rattle.std.specs.Char.{to_ascii_lowercase}
use Rattle.keyed.specs.Fields.{hexed}

-- whether n lies between two numbers
abbrev pub between : (low high n : ℕ) → Bool
between low high n = nat_le low n && nat_le n high

-- what a lowercase digit counts: 0 to 9 stand at 48 in ASCII, a to f at 97
abbrev pub digit : ℕ → Option ℕ
digit c = cond (between 48 57 c) (Some (c - 48)) (cond (between 97 102 c) (Some (c - 97 + 10)) None)

-- f of two values, if both are there
abbrev pub both : {A B C : Type 0} → (A → B → C) → Option A → Option B → Option C
both f None b = None
both f (Some a) None = None
both f (Some a) (Some b) = Some (f a b)

-- the byte of two digits
abbrev pub pair : (high low : ℕ) → Option ℕ
pair high low = both (λ h l. h * 16 + l) (digit high) (digit low)

-- the bytes of lowercase digits, two for each
unfoldable pub unhexed : List ℕ → Option (List ℕ)
unhexed [] = Some []
unhexed (high ∷ []) = None
unhexed (high ∷ (low ∷ rest)) = both (λ b bytes. b ∷ bytes) (pair high low) (unhexed rest)

-- the n bytes of a text of just that many
abbrev pub exactly : ℕ → List ℕ → Option (List ℕ)
exactly n text = cond (length text == 2 * n) (unhexed text) None

-- the bytes of digits in lower or upper case
abbrev pub word_bytes : List ℕ → Option (List ℕ)
word_bytes word = unhexed (map to_ascii_lowercase word)

-- the bytes of words, one word after another
abbrev pub words_bytes : List (List ℕ) → Option (List ℕ)
words_bytes [] = Some []
words_bytes (word ∷ words) = both (λ b bytes. b ++ bytes) (word_bytes word) (words_bytes words)

-- bytes and their digits stand for each other
abbrev pub BytesAndDigitsAgree : Type 0
BytesAndDigitsAgree =
    ((bytes : List ℕ) → All (λ b. b < 256) bytes → unhexed (hexed bytes) ≡ Some bytes)
    × ((text bytes : List ℕ) → unhexed text ≡ Some bytes → hexed bytes ≡ text)
