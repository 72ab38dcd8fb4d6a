-- Numbers in the bytes of a message, the most significant byte first.
use Rattle.std.specs.Prelude.{ℕ, ◌+◌, ◌*◌, ◌/◌, ◌%◌, List, [], ◌∷◌, ◌++◌, replicate, Ok, Err, Result, slice_index}
use Rattle.field.specs.declared.number.Number.{Number}
use Rattle.field.specs.declared.octets.Octets.{Octets}
use Rattle.field.specs.Number.{capped}
use Rattle.field.specs.Octets.{picked, octets_of}

-- the byte at a place
abbrev pub at : List ℕ → ℕ → ℕ
at bytes k = slice_index bytes k

-- three bytes from a place on
abbrev pub triple : List ℕ → ℕ → ℕ
triple bytes k = at bytes k * 65536 + at bytes (k + 1) * 256 + at bytes (k + 2)

abbrev pub triple_bytes : ℕ → List ℕ
triple_bytes n = n / 65536 % 256 ∷ n / 256 % 256 ∷ n % 256 ∷ []

-- a count of 32 bits in bytes 2 to 5
abbrev pub word_of : List ℕ → Number 4294967295
word_of bytes = capped 4294967295 (at bytes 2 * 16777216 + at bytes 3 * 65536 + at bytes 4 * 256 + at bytes 5)

abbrev pub word_bytes : ℕ → List ℕ
word_bytes n = n / 16777216 % 256 ∷ n / 65536 % 256 ∷ n / 256 % 256 ∷ n % 256 ∷ []

-- a serial number of 64 bits in bytes 3 to 10
abbrev pub serial_of : List ℕ → Number 18446744073709551615
serial_of bytes =
    capped 18446744073709551615
    (at bytes 3 * 72057594037927936 + at bytes 4 * 281474976710656 + at bytes 5 * 1099511627776 + at bytes 6 * 4294967296
    + at bytes 7 * 16777216 + at bytes 8 * 65536 + at bytes 9 * 256 + at bytes 10)

abbrev pub number_bytes : ℕ → List ℕ
number_bytes n =
    n / 72057594037927936 % 256 ∷ n / 281474976710656 % 256 ∷ n / 1099511627776 % 256 ∷ n / 4294967296 % 256
    ∷ n / 16777216 % 256 ∷ n / 65536 % 256 ∷ n / 256 % 256 ∷ n % 256 ∷ []

-- twelve bytes with a serial number in bytes 3 to 10
abbrev pub serial_bytes : (address identifier first : ℕ) → Number 18446744073709551615 → List ℕ
serial_bytes address identifier first number = address ∷ identifier ∷ first ∷ number_bytes number.value ++ (0 ∷ [])

-- a message with up to four bytes of fields; what it does not specify is 0
abbrev pub plain_bytes : (address identifier : ℕ) → List ℕ → List ℕ
plain_bytes address identifier fields = address ∷ identifier ∷ picked 0 4 fields ++ replicate 6 0

-- a message whose ten bytes of fields are one run
abbrev pub with_ten_bytes : (address identifier : ℕ) → Octets 10 → List ℕ
with_ten_bytes address identifier body = address ∷ identifier ∷ picked 0 10 body.bytes

-- all that follows the identifier
abbrev pub ten_of : List ℕ → Octets 10
ten_of bytes = octets_of 10 (picked 2 10 bytes)

-- the next question, where the one before was answered
abbrev pub then : {A B E : Type 0} → Result A E → (A → Result B E) → Result B E
then (Ok x) f = f x
then (Err e) f = Err e
