-- The words of a text.
use Rattle.std.specs.Prelude.{◌≡◌, ℕ, ◌<◌, List, [], ◌∷◌, ◌++◌, length}
use Rattle.std.specs.Char.{is_whitespace, is_not_whitespace}
use Rattle.std.specs.Str.{NoCharPasses, EmptyOrStartsWithPassing}

-- a word stands first in a text, after any blanks, and is followed by a blank or by nothing
abbrev pub FirstWord : (text word rest : List ℕ) → Type 0
FirstWord text word rest =
    (gap : List ℕ) × (text ≡ gap ++ (word ++ rest)) × (0 < length word) × NoCharPasses is_not_whitespace gap
    × NoCharPasses is_whitespace word × ((more : List ℕ) × EmptyOrStartsWithPassing is_whitespace rest more)

-- words stand first in a text, and the rest follows
abbrev pub FirstWords : (text : List ℕ) → (words : List (List ℕ)) → (rest : List ℕ) → Type 0
FirstWords text [] rest = text ≡ rest
FirstWords text (word ∷ words) rest = (after : List ℕ) × FirstWord text word after × FirstWords after words rest

-- those are all words of a text
abbrev pub AreWords : (text : List ℕ) → (words : List (List ℕ)) → Type 0
AreWords text words = (rest : List ℕ) × FirstWords text words rest × NoCharPasses is_not_whitespace rest

-- a text has one list of words, and those that stand first in it are the first of them
abbrev pub WordsAreOne : Type 0
WordsAreOne =
    ((text : List ℕ) (words others : List (List ℕ)) → AreWords text words → AreWords text others → words ≡ others)
    × ((text : List ℕ) (first : List (List ℕ)) (rest : List ℕ) (words : List (List ℕ)) → FirstWords text first rest → AreWords text words
    → (more : List (List ℕ)) × (words ≡ first ++ more))
