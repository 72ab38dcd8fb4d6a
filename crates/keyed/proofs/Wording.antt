-- Words read one after another.
use Rattle.std.proofs.Common.{◌≡◌, ℕ, Some, None, Option, List, [], ◌∷◌, ◌++◌, map, option_map, refl, sym, ap, subst, ◌∙◌, append_assoc, append-nil}
use Rattle.std.specs.Borrow.{Bor}
use Rattle.std.specs.Iterator.{Yields}
use Rattle.std.specs.Str.Iter.{split_whitespace_rest, split_whitespace_steps}
use Rattle.std.specs.declared.str.SplitWhitespace.{SplitWhitespace}
use Rattle.keyed.specs.Hex.{both, word_bytes, words_bytes}
use Rattle.keyed.specs.Words.{FirstWord, FirstWords}

pub first_words : (xs : List (Bor (List ℕ))) (s t : SplitWhitespace) (text : List ℕ) → split_whitespace_rest s ≡ text → Yields split_whitespace_steps s xs t
    → FirstWords text (map (λ x. x.now) xs) (split_whitespace_rest t)
first_words [] s t text e y = sym e ∙ ap split_whitespace_rest y
first_words (x ∷ xs) s t text e y =
    (split_whitespace_rest y.0, subst (λ all. FirstWord all x.now (split_whitespace_rest y.0)) e y.1, first_words xs y.0 t (split_whitespace_rest y.0) refl y.2)

pub one_word_more : (words : List (List ℕ)) (text mid word rest : List ℕ) → FirstWords text words mid → FirstWord mid word rest → FirstWords text (words ++ (word ∷ [])) rest
one_word_more [] text mid word rest e f = (rest, subst (λ m. FirstWord m word rest) (sym e) f, refl)
one_word_more (v ∷ words) text mid word rest h f = (h.0, h.1, one_word_more words h.0 mid word rest h.2 f)

both-assoc : (o p q : Option (List ℕ)) → both (λ a b. a ++ b) o (both (λ a b. a ++ b) p q) ≡ both (λ a b. a ++ b) (both (λ a b. a ++ b) o p) q
both-assoc None p q = refl
both-assoc (Some a) None q = refl
both-assoc (Some a) (Some b) None = refl
both-assoc (Some a) (Some b) (Some c) = ap Some (sym (append_assoc a b c))

alone : (o : Option (List ℕ)) → both (λ a b. a ++ b) o (Some []) ≡ both (λ a b. a ++ b) (Some []) o
alone None = refl
alone (Some a) = ap Some (append-nil a)

words_push : (words : List (List ℕ)) (word : List ℕ) → words_bytes (words ++ (word ∷ [])) ≡ both (λ a b. a ++ b) (words_bytes words) (word_bytes word)
words_push [] word = alone (word_bytes word)
words_push (v ∷ words) word = ap (both (λ a b. a ++ b) (word_bytes v)) (words_push words word) ∙ both-assoc (word_bytes v) (words_bytes words) (word_bytes word)

after : (a : List ℕ) (o : Option (List ℕ)) → both (λ a b. a ++ b) (Some a) o ≡ option_map (λ more. a ++ more) o
after a None = refl
after a (Some b) = refl

pub word_read : (words : List (List ℕ)) (word read new : List ℕ) → words_bytes words ≡ Some read
    → option_map (λ more. read ++ more) (word_bytes word) ≡ Some new → words_bytes (words ++ (word ∷ [])) ≡ Some new
word_read words word read new e f = words_push words word ∙ (ap (λ o. both (λ a b. a ++ b) o (word_bytes word)) e ∙ (after read (word_bytes word) ∙ f))

pub word_not_read : (words : List (List ℕ)) (word read : List ℕ) → words_bytes words ≡ Some read
    → word_bytes word ≡ None → words_bytes (words ++ (word ∷ [])) ≡ None
word_not_read words word read e f = words_push words word ∙ (ap (λ o. both (λ a b. a ++ b) o (word_bytes word)) e ∙ ap (both (λ a b. a ++ b) (Some read)) f)
