-- The check byte: the remainder of binary long division by x^8 + x^2 + x + 1.
-- A polynomial's coefficients stand with the highest first; a remainder, of degree below 8, is a number below 256.
use Rattle.std.specs.Prelude.{ℕ, ◌+◌, ◌*◌, ◌/◌, ◌%◌, cond, List, [], ◌∷◌, ◌++◌, replicate, fold, bit_xor, nat_lt}

-- one step of the division: the next coefficient is brought down, and the divisor 1 0000 0111 taken away where it goes into that
unfoldable pub brought : ℕ → ℕ → ℕ
brought r bit = cond (nat_lt r 128) (2 * r + bit) (bit_xor (2 * r + bit) 263)

-- the remainder after some coefficients, from a remainder so far
abbrev pub divided : ℕ → List ℕ → ℕ
divided r bits = fold brought r bits

-- the coefficients of a byte, its most significant bit first
abbrev pub bits_of : ℕ → List ℕ
bits_of b = b / 128 % 2 ∷ b / 64 % 2 ∷ b / 32 % 2 ∷ b / 16 % 2 ∷ b / 8 % 2 ∷ b / 4 % 2 ∷ b / 2 % 2 ∷ b % 2 ∷ []

unfoldable pub coefficients : List ℕ → List ℕ
coefficients [] = []
coefficients (b ∷ bytes) = bits_of b ++ coefficients bytes

-- a remainder times x^8: eight coefficients 0 more
unfoldable pub shifted : ℕ → ℕ
shifted r = divided r (replicate 8 0)

-- the register is preset to 0; the bytes' polynomial is divided, times x^8
unfoldable pub check_of : List ℕ → ℕ
check_of bytes = shifted (divided 0 (coefficients bytes))
