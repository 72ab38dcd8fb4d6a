-- Hex digits read two at a time.
use Rattle.std.proofs.Common.{Result, Ok, Err, MatchResult, ◌≡◌, ℕ, zero, suc, ◌+◌, ◌*◌, ◌%◌, ◌<◌, Some, None, Option, List, [], ◌∷◌, ◌++◌, length, map, get_or, drop, option_map, refl, sym, ap, ◌∙◌, arith, append_assoc, append-nil, drop-cons, add-one, Bool, true, false, cond, ◌==◌, eq-eqb}
use Rattle.std.proofs.lemmas.List.{map-id}
use Rattle.std.specs.Simd.{first_chunks}
use Rattle.std.specs.Result.{IsErr, IsErrAnd}
use Rattle.keyed.specs.declared.hex.NotHex.{NotHex}
use Rattle.keyed.specs.declared.hex.NotHex.TheVariants.{Digits}
use Rattle.keyed.specs.Hex.{both, pair, unhexed, exactly}

-- the bytes of pairs, each digit put through f before
abbrev pub chunk_bytes : (ℕ → ℕ) → List (List ℕ) → Option (List ℕ)
chunk_bytes f [] = Some []
chunk_bytes f (p ∷ ps) = both (λ b bytes. b ∷ bytes) (pair (f (get_or p 0 0)) (f (get_or p 1 0))) (chunk_bytes f ps)

-- what is read of the pairs from i on stands after the bytes read so far
pub record SoFar (f : ℕ → ℕ) (ps : List (List ℕ)) (done : List ℕ) (i : ℕ) : Type 0 where
  pub is : chunk_bytes f ps ≡ option_map (λ more. done ++ more) (chunk_bytes f (drop i ps))

pub chunked : (f : ℕ → ℕ) (k : ℕ) (xs : List ℕ) → length xs ≡ 2 * k → unhexed (map f xs) ≡ chunk_bytes f (first_chunks 2 k xs)
unfolding unhexed
chunked f zero [] e = refl
chunked f zero (x ∷ xs) e = absurd (omega (arith, e))
chunked f (suc k) [] e = absurd (omega (arith, e))
chunked f (suc k) (x ∷ []) e = absurd (omega (arith, e))
chunked f (suc k) (x ∷ (y ∷ xs)) e = ap (λ o. both (λ b bytes. b ∷ bytes) (pair (f x) (f y)) o) (chunked f k xs (omega (arith, e)))

both_none : {A B C : Type 0} (g : A → B → C) (o : Option A) → both g o None ≡ None
both_none g None = refl
both_none g (Some a) = refl

-- one digit is left over
pub odd_none : (f : ℕ → ℕ) (xs : List ℕ) → length xs % 2 ≡ 1 → unhexed (map f xs) ≡ None
unfolding unhexed
odd_none f [] e = absurd (omega (arith, e))
odd_none f (x ∷ []) e = refl
odd_none f (x ∷ (y ∷ xs)) e =
    ap (λ o. both (λ b bytes. b ∷ bytes) (pair (f x) (f y)) o) (odd_none f xs (omega (arith, e))) ∙ both_none _ (pair (f x) (f y))

option_map_same : {A B : Type 0} (g h : A → B) → ((x : A) → g x ≡ h x) → (o : Option A) → option_map g o ≡ option_map h o
option_map_same g h e None = refl
option_map_same g h e (Some x) = ap Some (e x)

pub nothing_yet : (f : ℕ → ℕ) (ps : List (List ℕ)) → SoFar f ps [] 0
nothing_yet f ps = record { is = at (chunk_bytes f ps) }
  where
    at : (o : Option (List ℕ)) → o ≡ option_map (λ more. [] ++ more) o
    at None = refl
    at (Some x) = refl

step : (f : ℕ → ℕ) (ps : List (List ℕ)) (i : ℕ) → i < length ps
    → chunk_bytes f (drop i ps) ≡ both (λ b bytes. b ∷ bytes) (pair (f (get_or (get_or ps i []) 0 0)) (f (get_or (get_or ps i []) 1 0))) (chunk_bytes f (drop (i + 1) ps))
step f ps i h =
    let front : drop i ps ≡ get_or ps i [] ∷ drop (i + 1) ps = rw (add-one, drop-cons ps i []) in
    ap (chunk_bytes f) front

pub not_here : (f : ℕ → ℕ) (ps : List (List ℕ)) (done : List ℕ) (i : ℕ) → i < length ps → SoFar f ps done i
    → pair (f (get_or (get_or ps i []) 0 0)) (f (get_or (get_or ps i []) 1 0)) ≡ None
    → chunk_bytes f ps ≡ None
not_here f ps done i h so e = so.is ∙ ap (option_map (λ more. done ++ more)) (step f ps i h ∙ ap (λ o. both (λ b bytes. b ∷ bytes) o (chunk_bytes f (drop (i + 1) ps))) e)

pub one_more : (f : ℕ → ℕ) (ps : List (List ℕ)) (done : List ℕ) (i b : ℕ) → i < length ps → SoFar f ps done i
    → pair (f (get_or (get_or ps i []) 0 0)) (f (get_or (get_or ps i []) 1 0)) ≡ Some b
    → SoFar f ps (done ++ (b ∷ [])) (i + 1)
one_more f ps done i b h so e = record {
  is = so.is ∙ ap (option_map (λ more. done ++ more)) (step f ps i h ∙ ap (λ o. both (λ b bytes. b ∷ bytes) o (chunk_bytes f (drop (i + 1) ps))) e)
      ∙ after (chunk_bytes f (drop (i + 1) ps));
}
  where
    after : (o : Option (List ℕ)) → option_map (λ more. done ++ more) (both (λ b bytes. b ∷ bytes) (Some b) o) ≡ option_map (λ more. (done ++ (b ∷ [])) ++ more) o
    after None = refl
    after (Some x) = ap Some (sym (append_assoc done (b ∷ []) x))

pub all_read : (f : ℕ → ℕ) (ps : List (List ℕ)) (done : List ℕ) (i : ℕ) → drop i ps ≡ [] → SoFar f ps done i → chunk_bytes f ps ≡ Some done
all_read f ps done i e so = so.is ∙ ap (λ rest. option_map (λ more. done ++ more) (chunk_bytes f rest)) e ∙ ap Some (append-nil done)

-- a refusal, and what is so where it is for digits
pub refused : {A : Type 0} (P : A → Type 0) (Q : Type 0) (r : Result A NotHex) → IsErr r → Q → MatchResult r P (λ e. e ≡ Digits → Q)
refused P Q (Ok a) h q = absurd (cc)
refused P Q (Err e) h q = λ _. q

-- the byte that a call read of two digits
pub as_pair : {o r : Option ℕ} {a b x y : ℕ} → o ≡ pair a b → a ≡ x → b ≡ y → o ≡ r → pair x y ≡ r
as_pair {b = b} {x = x} p q s t = sym (ap (λ m. pair m b) q ∙ ap (λ m. pair x m) s) ∙ (sym p ∙ t)

-- the same refusal as of a call before
pub refused_as : {A : Type 0} (P : A → Type 0) (Q : Type 0) (r : Result A NotHex) (e : NotHex) → IsErrAnd r (λ f. f ≡ e) → (e ≡ Digits → Q) → MatchResult r P (λ f. f ≡ Digits → Q)
refused_as P Q (Ok a) e h q = absurd h
refused_as P Q (Err f) e h q = λ d. q (sym h ∙ d)

-- texts that are read as they stand
pub chunked_same : (k : ℕ) (xs : List ℕ) → length xs ≡ 2 * k → unhexed xs ≡ chunk_bytes (λ c. c) (first_chunks 2 k xs)
chunked_same k xs e = ap unhexed (sym (map-id xs)) ∙ chunked (λ c. c) k xs e

pub nothing : (n : ℕ) (xs : List ℕ) → unhexed xs ≡ None → exactly n xs ≡ None
nothing n xs e = pick (length xs == 2 * n)
  where
    pick : (b : Bool) → cond b (unhexed xs) None ≡ None
    pick true = e
    pick false = refl

pub odd_none_same : (n : ℕ) (xs : List ℕ) → length xs % 2 ≡ 1 → exactly n xs ≡ None
odd_none_same n xs e = nothing n xs (ap unhexed (sym (map-id xs)) ∙ odd_none (λ c. c) xs e)

pub whole : (n : ℕ) (xs bytes : List ℕ) → length xs ≡ 2 * n → unhexed xs ≡ Some bytes → exactly n xs ≡ Some bytes
whole n xs bytes e r = ap (λ b. cond b (unhexed xs) None) (eq-eqb (length xs) (2 * n) e) ∙ r
