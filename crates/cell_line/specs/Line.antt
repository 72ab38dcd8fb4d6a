-- The words of a line that says a cell.
use Rattle.std.specs.Prelude.{◌≡◌, ℕ, Bool, List, ◌∷◌, ◌++◌, map, codes, IfOk, Result}
use Rattle.std.specs.Str.Iter.{split_whitespace_rest}
use Rattle.field.specs.declared.grant.Grant.{Grant}
use Rattle.message.specs.declared.downstream.Downstream.{Downstream}
use Rattle.keyed.specs.declared.key.Key.TheVariants as key
use Rattle.keyed.specs.Names.{key_name}
use Rattle.keyed.specs.Fields.{Field}
use Rattle.keyed.specs.Words.{FirstWord, FirstWords}
use Rattle.readable.specs.declared.kind.Kind.{Kind}
use Rattle.readable.specs.Names.{kind_name, kind_of}
use Rattle.readable.specs.Shown.{marks, fields_of}
use Rattle.cell_line.specs.declared.parse.words.Words.{Words}

-- a field as a word: its key, the sign and its text
abbrev pub field_word : Field → List ℕ
field_word f = key_name f.0 ++ (codes "=" ++ f.1)

-- all words of a cell's line
abbrev pub cell_words : Bool → List Grant → Downstream → List (List ℕ)
cell_words first grants message =
    codes "cell" ∷ map field_word (marks first grants ++ ((key.Message, kind_name (kind_of message)) ∷ fields_of message))

-- the text that is left to read
abbrev pub left : Words → List ℕ
left words = split_whitespace_rest words.left

-- the next word is a field with that text
abbrev pub NextField : Words → Field → Words → Type 0
NextField before field after = FirstWord (left before) (field_word field) (left after)

-- the next words are fields
abbrev pub NextFields : Words → List Field → Words → Type 0
NextFields before fields after = FirstWords (left before) (map field_word fields) (left after)

-- what is read, if anything, is a message of a kind, and its fields are the next words
abbrev pub ReadsMessage : {E : Type 0} → Words → Kind → Result Downstream E → Words → Type 0
ReadsMessage before kind read after = IfOk read (λ message. (kind_of message ≡ kind) × NextFields before (fields_of message) after)
