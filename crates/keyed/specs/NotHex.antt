-- What is said of a line that is no run of bytes.
use Rattle.std.specs.Prelude.{ℕ, List, codes}
use Rattle.keyed.specs.declared.hex.NotHex.{NotHex}
use Rattle.keyed.specs.declared.hex.NotHex.TheVariants.{Digits, Memory}

abbrev pub not_hex_words : NotHex → List ℕ
not_hex_words Digits = codes "not hex"
not_hex_words Memory = codes "out of memory"
