-- A text is cut into words in one way.
use Rattle.std.proofs.Common.{◌≡◌, ℕ, ◌<◌, Bool, true, false, List, [], ◌∷◌, ◌++◌, length, refl, sym, ap, subst, ◌∙◌, arith, not, append_assoc, append-nil, length-append}
use Rattle.std.proofs.Math.Utf8.{encode, encodes}
use Rattle.std.proofs.lemmas.Str.{encode_same, length-le-encodes}
use Rattle.std.specs.Char.{is_whitespace, is_not_whitespace}
use Rattle.std.specs.Str.{NonePass, NoCharPasses, EmptyOrStartsWithPassing}
use Rattle.keyed.specs.Words.{FirstWord, FirstWords, WordsAreOne}

-- a text does not begin with a character that fails q
abbrev Stops : (ℕ → Bool) → List ℕ → Type 0
Stops q a = (c : ℕ) (r : List ℕ) → a ≡ encode c ++ r → q c ≡ true

not_both : {b : Bool} → b ≡ true → b ≡ false → ⊥
not_both e f = cc

-- characters that all fail q, up to where they stop
same_run : (q : ℕ → Bool) (cs ds a b : List ℕ) → NonePass q cs → NonePass q ds → Stops q a → Stops q b → encodes cs ++ a ≡ encodes ds ++ b
    → (encodes cs ≡ encodes ds) × (a ≡ b)
same_run q [] [] a b n m s t e = (refl, e)
same_run q [] (d ∷ ds) a b n m s t e = absurd (not_both (s d (encodes ds ++ b) (e ∙ append_assoc (encode d) (encodes ds) b)) m.0)
same_run q (c ∷ cs) [] a b n m s t e = absurd (not_both (t c (encodes cs ++ a) (sym e ∙ append_assoc (encode c) (encodes cs) a)) n.0)
same_run q (c ∷ cs) (d ∷ ds) a b n m s t e =
    let h = encode_same c d (encodes cs ++ a) (encodes ds ++ b) (sym (append_assoc (encode c) (encodes cs) a) ∙ (e ∙ append_assoc (encode d) (encodes ds) b)) in
    let k = same_run q cs ds a b n.1 m.1 s t h.1 in
    (ap (λ x. encode x ++ encodes cs) h.0 ∙ ap (λ xs. encode d ++ xs) k.0, k.1)

-- blanks stop where a word begins
word_stops : (ds a : List ℕ) → 0 < length (encodes ds) → NonePass is_whitespace ds → Stops is_not_whitespace (encodes ds ++ a)
word_stops [] a some n c r e = absurd (omega (arith, some))
word_stops (d ∷ ds) a some n c r e =
    let h = encode_same d c (encodes ds ++ a) r (sym (append_assoc (encode d) (encodes ds) a) ∙ e) in
    subst (λ x. is_not_whitespace x ≡ true) h.0 (ap not n.0)

-- a character has bytes
some_bytes : (c : ℕ) (r : List ℕ) → 0 < length (encode c ++ r)
some_bytes c r = omega (arith, length-append (encode c) r, length-append (encode c) [], length-le-encodes (c ∷ []))

-- a word stops where it ends
rest_stops : (a more : List ℕ) → EmptyOrStartsWithPassing is_whitespace a more → Stops is_whitespace a
rest_stops a more h c r e =
    let x = h (subst (λ t. 0 < length t) (sym e) (some_bytes c r)) in
    subst (λ y. is_whitespace y ≡ true) (encode_same x.0 c more r (sym x.2 ∙ e)).0 x.1

nothing_stops : (q : ℕ → Bool) → Stops q []
nothing_stops q c r e = absurd (omega (arith, ap length e, some_bytes c r))

laid : (cs ds gap w a text : List ℕ) → encodes cs ≡ gap → encodes ds ≡ w → text ≡ gap ++ (w ++ a) → encodes cs ++ (encodes ds ++ a) ≡ text
laid cs ds gap w a text e f t = ap (λ xs. xs ++ (encodes ds ++ a)) e ∙ (ap (λ xs. gap ++ (xs ++ a)) f ∙ sym t)

longer : (ds w : List ℕ) → encodes ds ≡ w → 0 < length w → 0 < length (encodes ds)
longer ds w e h = subst (λ xs. 0 < length xs) (sym e) h

one_word : (text w a v b : List ℕ) → FirstWord text w a → FirstWord text v b → (w ≡ v) × (a ≡ b)
one_word text w a v b f g =
    let gaps = same_run is_not_whitespace f.3.0 g.3.0 (encodes f.4.0 ++ a) (encodes g.4.0 ++ b) f.3.2 g.3.2
    (word_stops f.4.0 a (longer f.4.0 w f.4.1 f.2) f.4.2) (word_stops g.4.0 b (longer g.4.0 v g.4.1 g.2) g.4.2)
    (laid f.3.0 f.4.0 f.0 w a text f.3.1 f.4.1 f.1 ∙ sym (laid g.3.0 g.4.0 g.0 v b text g.3.1 g.4.1 g.1)) in
    let words = same_run is_whitespace f.4.0 g.4.0 a b f.4.2 g.4.2 (rest_stops a f.5.0 f.5.1) (rest_stops b g.5.0 g.5.1) gaps.1 in
    (sym f.4.1 ∙ (words.0 ∙ g.4.1), words.1)

-- no word stands where there are only blanks
no_word : (text v b : List ℕ) → NoCharPasses is_not_whitespace text → FirstWord text v b → ⊥
no_word text v b n g =
    let gaps = same_run is_not_whitespace n.0 g.3.0 [] (encodes g.4.0 ++ b) n.2 g.3.2 (nothing_stops is_not_whitespace)
    (word_stops g.4.0 b (longer g.4.0 v g.4.1 g.2) g.4.2)
    (append-nil (encodes n.0) ∙ (n.1 ∙ sym (laid g.3.0 g.4.0 g.0 v b text g.3.1 g.4.1 g.1))) in
    omega (arith, ap length gaps.1, length-append (encodes g.4.0) b, longer g.4.0 v g.4.1 g.2)

first_of_all : (first : List (List ℕ)) (text rest : List ℕ) (words : List (List ℕ)) (end : List ℕ)
    → FirstWords text first rest → FirstWords text words end → NoCharPasses is_not_whitespace end → (more : List (List ℕ)) × (words ≡ first ++ more)
first_of_all [] text rest words end f g n = (words, refl)
first_of_all (w ∷ first) text rest [] end f g n = absurd (no_word text w f.0 (subst (NoCharPasses is_not_whitespace) (sym g) n) f.1)
first_of_all (w ∷ first) text rest (v ∷ words) end f g n =
    let same = one_word text w f.0 v g.0 f.1 g.1 in
    let k = first_of_all first f.0 rest words end f.2 (subst (λ t. FirstWords t words end) (sym same.1) g.2) n in
    (k.0, ap (λ x. x ∷ words) (sym same.0) ∙ ap (λ xs. w ∷ xs) k.1)

all_same : (words : List (List ℕ)) (text : List ℕ) (others : List (List ℕ)) (rest end : List ℕ)
    → FirstWords text words rest → NoCharPasses is_not_whitespace rest → FirstWords text others end → NoCharPasses is_not_whitespace end → words ≡ others
all_same [] text [] rest end f m g n = refl
all_same [] text (v ∷ others) rest end f m g n = absurd (no_word text v g.0 (subst (NoCharPasses is_not_whitespace) (sym f) m) g.1)
all_same (w ∷ words) text [] rest end f m g n = absurd (no_word text w f.0 (subst (NoCharPasses is_not_whitespace) (sym g) n) f.1)
all_same (w ∷ words) text (v ∷ others) rest end f m g n =
    let same = one_word text w f.0 v g.0 f.1 g.1 in
    ap (λ x. x ∷ words) same.0 ∙ ap (λ xs. v ∷ xs) (all_same words f.0 others rest end f.2 m (subst (λ t. FirstWords t others end) (sym same.1) g.2) n)

pub one_way : WordsAreOne
one_way = (
  λ text words others f g. all_same words text others f.0 g.0 f.1 f.2 g.1 g.2,
  λ text first rest words f g. first_of_all first text rest words g.0 f g.1 g.2,
)
