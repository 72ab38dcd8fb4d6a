-- A star of lawful plants is one.
use Rattle.std.specs.Prelude.{◌≡◌, ℕ, zero, suc, ◌+◌, ◌<◌, ◌≤◌, true, false, List, [], ◌∷◌, ◌++◌, length, drop, set, nat_le, slice_index_or}
use native.Mathlib.Omega.{arith}
use Rattle.std.proofs.Math.Path.{refl, sym, ap, subst}
use Rattle.std.proofs.Common.{◌∙◌, append_assoc, append-nil, inl, inr, length-append}
use Rattle.std.proofs.Math.Seq.{drop-cons}
use Rattle.std.proofs.lemmas.Bool.{cases_lt}
use Rattle.onu.specs.declared.state.Onu.{Onu}
use Rattle.splitter.specs.Splits.{joined_few, joined_sound, joined_whole, joined_dark, joined_drifts}
use Rattle.splitter.specs.Splitter.{joined}
use Rattle.plant.proofs.Lists.{hears-append, hears-count, drifts_still}
use Rattle.plant.specs.Lawful.{Does, Lawful, HearsCell, Drifts, all_sound, none as nobody, slot_limit}
use Rattle.plant.specs.declared.burst.Burst.{Burst}
use Rattle.star.specs.Star.{lit, lit_in, lighted, Arms, none, bright, dim}

pub lit_yes : (n m : ℕ) → n + m ≤ 64 → lit n m ≡ n + m
lit_yes n m h = let e : nat_le (n + m) 64 ≡ true = grind arith in rw e

pub lit_no : (n m : ℕ) → 64 < n + m → lit n m ≡ n
lit_no n m h = let e : nat_le (n + m) 64 ≡ false = grind arith in rw e

lit_more : (n m : ℕ) → n ≤ lit n m
lit_more n m = elim (cases_lt 64 (n + m)) [ inl h ↦ omega (arith, lit_no n m h) | inr h ↦ omega (arith, lit_yes n m h) ]

length-joined : (xs ys : List Onu) → length (joined xs ys) ≡ lit (length xs) (length ys)
length-joined xs ys =
    elim (cases_lt 64 (length xs + length ys)) [
      | inl h ↦ ap length (joined_dark xs ys h) ∙ sym (lit_no (length xs) (length ys) h)
      | inr h ↦ ap length (joined_whole xs ys h) ∙ length-append xs ys ∙ sym (lit_yes (length xs) (length ys) h)
    ]

module _ {X : Type 0} (means : X → List Onu) where
  pub lit_none : (n : ℕ) → lit_in means n [] ≡ n
  unfolding lit_in
  lit_none n = refl

  pub drop_next : (xs : List X) (i : ℕ) (d : X) → i < length xs → drop i xs ≡ slice_index_or xs i d ∷ drop (i + 1) xs
  drop_next xs i d h = let e : suc i ≡ i + 1 = omega arith in subst (λ (j : ℕ). drop i xs ≡ slice_index_or xs i d ∷ drop j xs) e (drop-cons xs i d h)

  -- the arm at i is the first of those that are left
  pub lit_next : (n : ℕ) (xs : List X) (i : ℕ) (a : X) → i < length xs → a ≡ slice_index_or xs i a → lit_in means n (drop i xs) ≡ lit_in means (lit n (length (means a))) (drop (i + 1) xs)
  unfolding lit_in
  lit_next n xs i a h e = ap (lit_in means n) (drop_next xs i a h ∙ ap (λ (x : X). x ∷ drop (i + 1) xs) (sym e))

  pub lit_grows : (n : ℕ) (xs : List X) → n ≤ lit_in means n xs
  unfolding lit_in
  lit_grows n [] = omega arith
  lit_grows n (x ∷ xs) = omega (arith, lit_more n (length (means x)), lit_grows (lit n (length (means x))) xs)

  pub lighted-length : (zs : List Onu) (xs : List X) → length (lighted means zs xs) ≡ lit_in means (length zs) xs
  unfolding lighted lit_in
  lighted-length zs [] = refl
  lighted-length zs (x ∷ xs) = lighted-length (joined zs (means x)) xs ∙ ap (λ (n : ℕ). lit_in means n xs) (length-joined zs (means x))

  pub lighted_few : (zs : List Onu) (xs : List X) → length zs ≤ 64 → length (lighted means zs xs) ≤ 64
  unfolding lighted
  lighted_few zs [] h = h
  lighted_few zs (x ∷ xs) h = lighted_few (joined zs (means x)) xs (joined_few zs (means x) h)

  pub lighted_sound : ((x : X) → all_sound (means x) ≡ true) → (zs : List Onu) (xs : List X) → all_sound zs ≡ true → all_sound (lighted means zs xs) ≡ true
  unfolding lighted
  lighted_sound law zs [] h = h
  lighted_sound law zs (x ∷ xs) h = lighted_sound law (joined zs (means x)) xs (joined_sound zs (means x) h (law x))

  after_drift : (zs zs' : List Onu) (xs : List X) → Drifts zs zs' → Drifts (lighted means zs xs) (lighted means zs' xs)
  unfolding lighted
  after_drift zs zs' [] h = h
  after_drift zs zs' (x ∷ xs) h = after_drift (joined zs (means x)) (joined zs' (means x)) xs (joined_drifts h (drifts_still (means x)))

  -- one arm by itself
  pub lighted_drifts : (zs : List Onu) (xs : List X) (i : ℕ) (d y : X) → Drifts (means (slice_index_or xs i d)) (means y)
      → Drifts (lighted means zs xs) (lighted means zs (set xs i y))
  unfolding lighted
  lighted_drifts zs [] i d y h = drifts_still zs
  lighted_drifts zs (x ∷ xs) zero d y h = after_drift (joined zs (means x)) (joined zs (means y)) xs (joined_drifts (drifts_still zs) h)
  lighted_drifts zs (x ∷ xs) (suc i) d y h = lighted_drifts (joined zs (means x)) xs i d y h

module _ {X : Type 0} (means : X → List Onu) (D : Does X) (p : List ℕ) (f : ℕ) where
  module _ (law : Lawful means D) (l : length p ≡ 48) (h : f < slot_limit) where
    -- arms heard after others
    arms-heard : {n : ℕ} {xs ys : List X} {new old : List Burst} (zs zs' : List Onu) → n ≡ length zs → HearsCell p f zs zs' old → Arms means D p f n xs ys new
        → HearsCell p f (lighted means zs xs) (lighted means zs' ys) (old ++ new)
    unfolding lighted
    arms-heard {old = old} zs zs' e k none = subst (λ (ws : List Burst). HearsCell p f zs zs' ws) (sym (append-nil old)) k
    arms-heard {n} {old = old} zs zs' e k (bright {a = a} {b = b} {xs = xs} {ys = ys} {us = us} {vs = vs} s d r) =
        let k1 = law a b p f us l h d in
        let c1 : length zs' ≡ length zs = hears-count k in
        let c2 : length (means b) ≡ length (means a) = hears-count k1 in
        let j1 : joined zs (means a) ≡ zs ++ means a = joined_whole zs (means a) (omega arith) in
        let j2 : joined zs' (means b) ≡ zs' ++ means b = joined_whole zs' (means b) (omega arith) in
        let e2 : n + length (means a) ≡ length (zs ++ means a) = ap (λ (i : ℕ). i + length (means a)) e ∙ sym (length-append zs (means a)) in
        rw (j1, j2, ← append_assoc) (arms-heard (zs ++ means a) (zs' ++ means b) e2 (hears-append k k1) r)
    arms-heard {n} {old = old} zs zs' e k (dim {a = a} {xs = xs} {ys = ys} {vs = vs} s r) =
        let c1 : length zs' ≡ length zs = hears-count k in
        let j1 : joined zs (means a) ≡ zs = joined_dark zs (means a) (omega arith) in
        let j2 : joined zs' (means a) ≡ zs' = joined_dark zs' (means a) (omega arith) in
        rw (j1, j2) (arms-heard zs zs' e k r)

    pub star_lawful : {xs ys : List X} {new : List Burst} → Arms means D p f 0 xs ys new → HearsCell p f (lighted means [] xs) (lighted means [] ys) new
    star_lawful r = arms-heard [] [] refl nobody r
