-- A splitter of two lawful plants is one.
use Rattle.std.specs.Prelude.{◌≡◌, ℕ, ◌+◌, ◌<◌, ◌≤◌, Bool, true, false, cond, ◌&&◌, leb, List, [], ◌∷◌, ◌++◌, length, MatchBool, nat_le, refl}
use Rattle.std.proofs.Common.{arith, ap, ◌∙◌, inl, inr, length-append}
use Rattle.std.proofs.lemmas.Bool.{cases_lt}
use Rattle.onu.specs.Facts.{sound}
use Rattle.onu.specs.declared.state.Onu.{Onu}
use Rattle.plant.proofs.Lists.{hears-append, hears-count, drifts-append, drifts-count}
use Rattle.plant.specs.Lawful.{Does, Lawful, HearsCell, Drifts, all_sound, slot_limit}
use Rattle.plant.specs.declared.burst.Burst.{Burst}
use Rattle.splitter.specs.Splitter.{joined, SplitDoes}

pub joined_whole : (xs ys : List Onu) → length xs + length ys ≤ 64 → joined xs ys ≡ xs ++ ys
joined_whole xs ys h = let e : leb (length xs + length ys) 64 ≡ true = grind arith in rw e

pub joined_dark : (xs ys : List Onu) → 64 < length xs + length ys → joined xs ys ≡ xs
joined_dark xs ys h = let e : leb (length xs + length ys) 64 ≡ false = grind arith in rw e

pub length-joined : (xs ys : List Onu) → length xs + length ys ≤ 64 → length (joined xs ys) ≡ length xs + length ys
length-joined xs ys h = ap length (joined_whole xs ys h) ∙ length-append xs ys

pub joined_few : (xs ys : List Onu) → length xs ≤ 64 → length (joined xs ys) ≤ 64
joined_few xs ys h =
    elim (cases_lt 64 (length xs + length ys)) [ inl k ↦ rw (joined_dark xs ys k) h | inr k ↦ omega (arith, length-joined xs ys k) ]

pub one_few : (xs ys : List Onu) → length xs ≤ length (joined xs ys)
one_few xs ys =
    elim (cases_lt 64 (length xs + length ys)) [ inl k ↦ omega (arith, ap length (joined_dark xs ys k)) | inr k ↦ omega (arith, length-joined xs ys k) ]

both : (u v w : Bool) → w ≡ true → (u && v) ≡ true → (u && w) ≡ true
both true v w h k = h
both false v w h k = k

rest : (u v : Bool) → (u && v) ≡ true → v ≡ true
rest true v e = e
rest false v e = cc

sound-append : (xs ys : List Onu) → all_sound xs ≡ true → all_sound ys ≡ true → all_sound (xs ++ ys) ≡ true
sound-append [] ys h k = k
sound-append (x ∷ xs) ys h k = both (sound x) (all_sound xs) (all_sound (xs ++ ys)) (sound-append xs ys (rest (sound x) (all_sound xs) h) k) h

pub joined_sound : (xs ys : List Onu) → all_sound xs ≡ true → all_sound ys ≡ true → all_sound (joined xs ys) ≡ true
joined_sound xs ys h k =
    elim (nat_le (length xs + length ys) 64) as (λ (v : Bool). all_sound (cond v (xs ++ ys) xs) ≡ true) [ true ↦ sound-append xs ys h k | false ↦ h ]

-- each side by itself
pub joined_drifts : {xs xs' ys ys' : List Onu} → Drifts xs xs' → Drifts ys ys' → Drifts (joined xs ys) (joined xs' ys')
joined_drifts {xs} {xs'} {ys} {ys'} h k =
    rw (drifts-count h, drifts-count k)
    (elim (nat_le (length xs + length ys) 64) as (λ (v : Bool). Drifts (cond v (xs ++ ys) xs) (cond v (xs' ++ ys') xs')) [ true ↦ drifts-append h k | false ↦ h ])

module _ {X Y : Type 0} (m : X → List Onu) (n : Y → List Onu) (D : Does X) (E : Does Y) where
  split_case : (v : Bool) (x x' : X) (y y' : Y) (p : List ℕ) (f : ℕ) (new : List Burst) → Lawful m D → Lawful n E → length p ≡ 48 → f < slot_limit
      → nat_le (length (m x) + length (n y)) 64 ≡ v
      → MatchBool v ((bs : List Burst) × (cs : List Burst) × D x p f x' bs × E y p f y' cs × (new ≡ bs ++ cs)) (D x p f x' new × (y' ≡ y))
      → HearsCell p f (joined (m x) (n y)) (joined (m x') (n y')) new
  split_case true x x' y y' p f new l k len h e (bs, cs, d, g, s) =
      let h1 = l x x' p f bs len h d in
      let h2 = k y y' p f cs len h g in
      let e' : leb (length (m x') + length (n y')) 64 ≡ true =
      ap (λ (i : ℕ). leb (i + length (n y')) 64) (hears-count h1) ∙ ap (λ (i : ℕ). leb (length (m x) + i) 64) (hears-count h2) ∙ e in
      rw (e, e', s) (hears-append h1 h2)
  split_case false x x' y y' p f new l k len h e (d, s) =
      let h1 = l x x' p f new len h d in
      let e' : leb (length (m x') + length (n y')) 64 ≡ false =
      ap (λ (i : ℕ). leb (i + length (n y')) 64) (hears-count h1) ∙ ap (λ (z : Y). leb (length (m x) + length (n z)) 64) s ∙ e in
      rw (e, e') h1

  pub split_lawful : Lawful m D → Lawful n E → (x x' : X) (y y' : Y) (p : List ℕ) (f : ℕ) (new : List Burst) → length p ≡ 48 → f < slot_limit
      → SplitDoes D E (length (m x) + length (n y)) x y p f x' y' new
      → HearsCell p f (joined (m x) (n y)) (joined (m x') (n y')) new
  split_lawful l k x x' y y' p f new len h d = split_case (nat_le (length (m x) + length (n y)) 64) x x' y y' p f new l k len h refl d
