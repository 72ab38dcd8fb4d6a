-- Texts of fields: keys and values.
use Rattle.std.specs.Prelude.{ℕ, ◌/◌, ◌%◌, Bool, cond, List, [], ◌∷◌, ◌++◌, codes, decimal}
use Rattle.std.specs.Char.{digit_char}
use Rattle.field.specs.Bytes.{number_bytes}
use Rattle.message.specs.declared.downstream.Address.{Address}
use Rattle.message.specs.declared.downstream.Address.TheVariants.{One, All}
use Rattle.keyed.specs.declared.key.Key.{Key}
use Rattle.keyed.specs.declared.key.Key.TheVariants as key
use Rattle.keyed.specs.Names.{key_name}

-- two lowercase digits for each byte
unfoldable pub hexed : List ℕ → List ℕ
hexed [] = []
hexed (b ∷ bytes) = digit_char (b / 16) ∷ digit_char (b % 16) ∷ hexed bytes

-- A field is a key with a text.
abbrev pub Field : Type 0
Field = Key × List ℕ

abbrev pub number : Key → ℕ → Field
number k n = (k, decimal n)

abbrev pub flag : Key → Bool → Field
flag k b = (k, cond b (codes "1") (codes "0"))

abbrev pub octets : Key → List ℕ → Field
octets k bytes = (k, hexed bytes)

abbrev pub serial : ℕ → Field
serial n = octets key.Serial (number_bytes n)

abbrev pub address_text : Address → List ℕ
address_text (One p) = decimal p.value
address_text All = codes "all"

abbrev pub address : Address → Field
address to = (key.PonId, address_text to)

-- what stands before a value: a blank, the key and its sign
abbrev pub key_text : Key → List ℕ
key_text k = codes " " ++ (key_name k ++ codes "=")

-- fields one after another
abbrev pub fields_text : List Field → List ℕ
fields_text [] = []
fields_text (f ∷ fields) = (key_text f.0 ++ f.1) ++ fields_text fields
