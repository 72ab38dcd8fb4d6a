-- Bursts of the two kinds are apart; elements of lists.
use Rattle.std.proofs.Common.{◌≡◌, ◌≢◌, ℕ, zero, suc, ◌+◌, ◌-◌, ◌/◌, ◌%◌, ◌<◌, ◌≤◌, true, false, List, [], ◌∷◌, ◌++◌, Some, ◌⊎◌, inl, inr, ⊎_elim, refl, subst, arith}
use Rattle.std.proofs.lemmas.Bool.{cases_lt, cond-true}
use Rattle.std.proofs.lemmas.Bool.Decides.{nat_tests}
use Rattle.std.proofs.lemmas.List.Elements.{All-head, All-tail, All-nil, All-cons}
use Rattle.std.proofs.lemmas.List.Kept.{AllPairs-cons}
use Rattle.std.specs.List.{AllPairs, Contains, All}
use Rattle.plant.specs.Overlap.{Apart}
use Rattle.plant.proofs.Overlaps.{stands}
use Rattle.plant.specs.declared.burst.Burst.{Burst}
use Rattle.rules.specs.Schedule.{window_place}
use Rattle.rules.specs.declared.settings.Settings.{Settings}
use Rattle.line.proofs.Invariant.{Among, here, there, windowed, lasts, whose, GuardFits, Kind, ApartAll, Pairwise}

-- what a guard's half and quarter come to
pub guard_parts : (G : ℕ) → GuardFits G → (G / 4 + G / 2 ≤ G) × (G / 2 + G / 2 ≡ G) × (G ≤ 16) × (4 ≤ G) × (G / 4 + G / 4 ≡ G / 2)
guard_parts G (inl e) = omega arith
guard_parts G (inr (inl e)) = omega arith
guard_parts G (inr (inr (inl e))) = omega arith
guard_parts G (inr (inr (inr e))) = omega arith

-- the last slot of a window is the last slot of the second of two frames
pub last_slot : (m : ℕ) → lasts m ≡ true → (m / 53 % 16 ≡ 15) × (m % 53 ≡ 52)
last_slot m e = (grind (arith, nat_tests), grind (arith, nat_tests))

-- the last slot of a window is the window's place's
pub last_whose : (s : Settings) (n : ℕ) → lasts n ≡ true → whose s n ≡ Some (window_place (n / 53))
last_whose s n e = cond-true (windowed n) (Some (window_place (n / 53))) _ (grind (arith, nat_tests))

-- a slot of no window is in an earlier frame than a window's two, or early in the first of them
outside : (n : ℕ) → windowed n ≡ false → (n / 53 % 16 < 14) ⊎ ((n / 53 % 16 ≡ 14) × (n % 53 < 33))
outside n e = grind (arith, nat_tests)

-- before the last slot of a window 72 slots are the window's
none_between : (n m : ℕ) → n < m → lasts m ≡ true → windowed n ≡ false → n + 73 ≤ m
none_between n m l e w = let x = last_slot m e in elim (outside n w) [ inl o ↦ omega arith | inr o ↦ omega arith ]

-- the slot of the first burst lies below that of the second
in_order : (G n m s t : ℕ) → GuardFits G → n < m → Kind G n s → Kind G m t → s + (448 - G) ≤ t
in_order G n m s t fits l (inl a) (inl b) = let k = guard_parts G fits in omega arith
in_order G n m s t fits l (inl a) (inr b) = let k = guard_parts G fits in let far = none_between n m l b.ends a.outside in omega arith
in_order G n m s t fits l (inr a) (inl b) = let k = guard_parts G fits in omega arith
in_order G n m s t fits l (inr a) (inr b) =
    let k = guard_parts G fits in
    let x = last_slot n a.ends in
    let y = last_slot m b.ends in
    let far : n + 848 ≤ m = omega arith in omega arith

-- bursts of the two kinds in different slots have no bit time in common
pub kinds_apart : (G : ℕ) → GuardFits G → (a b : Burst) → Kind G a.slot a.start → Kind G b.slot b.start → a.slot ≢ b.slot → Apart G a b
kinds_apart G fits a b x y differ =
    elim (cases_lt a.slot b.slot) [
      | inl l ↦ stands.2 G a b (inl (in_order G a.slot b.slot a.start b.start fits l x y))
      | inr l ↦ stands.2 G a b (inr (in_order G b.slot a.slot b.start a.start fits (omega arith) y x))
    ]

-- an element of a list, by the list's parts
pub among_one : {A : Type 0} {b c : A} {cs : List A} → Among b (c ∷ cs) → (b ≡ c) ⊎ Among b cs
among_one here = inl refl
among_one (there m) = inr m

pub among_none : {A : Type 0} {b : A} → Among b [] → ⊥
among_none m = elim m [ ]

pub among_append : {A : Type 0} {b : A} (xs ys : List A) → Among b (xs ++ ys) → Among b xs ⊎ Among b ys
among_append [] ys m = inr m
among_append (x ∷ xs) ys here = inl here
among_append (x ∷ xs) ys (there m) = ⊎_elim (λ i. inl (there i)) (λ i. inr i) (among_append xs ys m)

pub among_left : {A : Type 0} {b : A} {xs : List A} (ys : List A) → Among b xs → Among b (xs ++ ys)
among_left ys here = here
among_left ys (there m) = there (among_left ys m)

pub among_right : {A : Type 0} {b : A} (xs : List A) {ys : List A} → Among b ys → Among b (xs ++ ys)
among_right [] m = m
among_right (x ∷ xs) m = there (among_right xs m)

-- the same in the words of std
pub among_contains : {A : Type 0} {x : A} {xs : List A} → Among x xs → Contains xs x
among_contains here = (0, omega arith, refl)
among_contains (there m) = let w = among_contains m in (suc w.0, omega (arith, w.1), w.2)

pub contains_among : {A : Type 0} (xs : List A) (x : A) → Contains xs x → Among x xs
contains_among [] x m = absurd (omega (arith, m.1))
contains_among (y ∷ xs) x (zero, l, e) = subst (λ z. Among z (y ∷ xs)) e here
contains_among (y ∷ xs) x (suc k, l, e) = there (contains_among xs x (k, omega arith, e))

-- what holds of all elements holds of each
pub all_among : {A : Type 0} (P : A → Type 0) {x : A} {xs : List A} → Among x xs → All P xs → P x
all_among P (here {xs}) a = All-head P _ xs a
all_among P (there {xs = xs} m) a = all_among P m (All-tail P _ xs a)

-- apart from each is apart from all
pub apart_all : (G : ℕ) (a : Burst) (bs : List Burst) → ((b : Burst) → Among b bs → Apart G a b) → ApartAll G a bs
apart_all G a [] h = tt
apart_all G a (b ∷ bs) h = (h b here, apart_all G a bs (λ c m. h c (there m)))

-- apart from two lists is apart from both together
apart-append : (G : ℕ) (a : Burst) (xs ys : List Burst) → ApartAll G a xs → ApartAll G a ys → ApartAll G a (xs ++ ys)
apart-append G a [] ys p q = q
apart-append G a (x ∷ xs) ys p q = (p.0, apart-append G a xs ys p.1 q)

-- two lists together, if each burst of the first is apart from each of the second
pub pairs_append : (G : ℕ) (xs ys : List Burst) → Pairwise G xs → Pairwise G ys → ((a b : Burst) → Among a xs → Among b ys → Apart G a b)
    → Pairwise G (xs ++ ys)
pairs_append G [] ys p q h = q
pairs_append G (x ∷ xs) ys p q h =
    (apart-append G x xs ys p.0 (apart_all G x ys (λ b m. h x b here m)), pairs_append G xs ys p.1 q (λ a b i m. h a b (there i) m))

-- what comes after a burst, in the words of std
all_apart : (G : ℕ) (a : Burst) (bs : List Burst) → ApartAll G a bs → All (Apart G a) bs
all_apart G a [] p = All-nil (Apart G a)
all_apart G a (b ∷ bs) p = All-cons (Apart G a) b bs p.0 (all_apart G a bs p.1)

-- in the words of the law
pub all_pairs : (G : ℕ) (bs : List Burst) → Pairwise G bs → AllPairs (Apart G) bs
all_pairs G [] p = λ i j d lt within. absurd (omega arith)
all_pairs G (b ∷ bs) p = AllPairs-cons (Apart G) b bs (all_apart G b bs p.0) (all_pairs G bs p.1)
