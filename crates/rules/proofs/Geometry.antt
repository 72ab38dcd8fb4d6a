-- Where windows and rounds lie.
use Rattle.std.proofs.Common.{◌≡◌, ◌≢◌, ℕ, ◌+◌, ◌*◌, ◌/◌, ◌%◌, ◌<◌, ◌≤◌, ◌⊎◌, inl, inr, Bool, true, false, cond, eqb, Some, None, refl, sym, ap, ◌∙◌, arith}
use Rattle.std.proofs.lemmas.Bool.{cases_lt, cases_order, cond-true, eqb-true, eq-eqb}
use Rattle.std.proofs.lemmas.Bool.Decides.{nat_tests}
use Rattle.field.proofs.Bounds.{within-value}
use Rattle.field.specs.Bounded.{within}
use Rattle.rules.proofs.Clamps.{place-value}
use Rattle.rules.specs.Facts.{EndsWindow, WindowsStand, RoundsStand}
use Rattle.rules.specs.Schedule.{Place, place_of, slot_number, window, last, window_place, owner, starting}
use Rattle.rules.specs.declared.settings.Settings.{Settings}

-- Places
some_same : {A : Type 0} {x y : A} → Some x ≡ Some y → x ≡ y
some_same e = cc

same_place : (p q : Place) → p.value ≡ q.value → p ≡ q
same_place p q e = some_same (sym (within-value p) ∙ ap (within 0 63) e ∙ within-value q)

pub is_place : (n : ℕ) (p : Place) → n % 64 ≡ p.value → place_of n ≡ p
is_place n p e = same_place (place_of n) p (place-value n ∙ e)

pub place_is : (n : ℕ) (p : Place) → place_of n ≡ p → n % 64 ≡ p.value
place_is n p e = sym (place-value n) ∙ ap (λ (x : Place). x.value) e

-- Windows
last_frame : (F X : ℕ) → last F X ≡ true → (F % 16 ≡ 15) × (X ≡ 53)
last_frame F X e = (grind (arith, nat_tests), grind (arith, nat_tests))

frame_last : (F : ℕ) → F % 16 ≡ 15 → last F 53 ≡ true
frame_last F e = grind (arith, nat_tests)

second : (F X : ℕ) → F % 16 ≡ 15 → X ≤ 53 → window F X ≡ true
second F X e h = grind (arith, nat_tests)

first : (F X : ℕ) → F % 16 ≡ 14 → 34 ≤ X → window F X ≡ true
first F X e h = grind (arith, nat_tests)

-- a slot of a window is in its second frame, or late in the first
inside : (F X : ℕ) → window F X ≡ true → (F % 16 ≡ 15) ⊎ ((F % 16 ≡ 14) × (34 ≤ X))
inside F X e = grind (arith, nat_tests)

windowed_owner : (s : Settings) (F X : ℕ) → window F X ≡ true → owner s F X ≡ Some (window_place F)
windowed_owner s F X e = cond-true (window F X) (Some (window_place F)) _ e

ends_frame : (s : Settings) (F X : ℕ) (p : Place) → EndsWindow s F X p → (X ≡ 53) × (F % 16 ≡ 15) × (F / 16 % 64 ≡ p.value)
ends_frame s F X p (l, o) =
    let k = last_frame F X l in
    let w : window F X ≡ true = second F X k.0 (omega arith) in
    (k.1, k.0, place_is (F / 16) p (some_same (sym (windowed_owner s F X w) ∙ o)))

frame_ends : (s : Settings) (F : ℕ) (p : Place) → F % 16 ≡ 15 → F / 16 % 64 ≡ p.value → EndsWindow s F 53 p
frame_ends s F p e v =
    let w : window F 53 ≡ true = second F 53 e (omega arith) in
    (frame_last F e, windowed_owner s F 53 w ∙ ap Some (is_place (F / 16) p v))

frame_ends_at : (s : Settings) (F X : ℕ) (p : Place) → (X ≡ 53) × (F % 16 ≡ 15) × (F / 16 % 64 ≡ p.value) → EndsWindow s F X p
frame_ends_at s F X p (x, e, v) = rw x (frame_ends s F p e v)

-- the frame in which the window of a slot ends
of_window : (F X : ℕ) → 1 ≤ X → X ≤ 53 → (F % 16 ≡ 15) ⊎ ((F % 16 ≡ 14) × (34 ≤ X))
    → (G : ℕ) × (last G 53 ≡ true) × (slot_number F X ≤ slot_number G 53) × (slot_number G 53 < slot_number F X + 73)
of_window F X a b (inl e) = (F, frame_last F e, omega arith, omega arith)
of_window F X a b (inr (e, h)) = (F + 1, frame_last (F + 1) (omega arith), omega arith, omega arith)

-- the 73 slots up to one in X 53 of frame G are those of G and the last twenty of the frame before
near : (F X G : ℕ) → 1 ≤ X → X ≤ 53 → slot_number F X ≤ slot_number G 53 → slot_number G 53 < slot_number F X + 73
    → (F ≡ G) ⊎ ((F + 1 ≡ G) × (34 ≤ X))
near F X G a b c d = elim (cases_lt F G) [ inl l ↦ inr (omega arith, omega arith) | inr l ↦ inl (omega arith) ]

near_window : (F X G : ℕ) → G % 16 ≡ 15 → X ≤ 53 → (F ≡ G) ⊎ ((F + 1 ≡ G) × (34 ≤ X)) → window F X ≡ true
near_window F X G e b (inl f) = second F X (omega arith) b
near_window F X G e b (inr (f, h)) = first F X (omega arith) h

near_place : (F X G q : ℕ) → G % 16 ≡ 15 → G / 16 % 64 ≡ q → (F ≡ G) ⊎ ((F + 1 ≡ G) × (34 ≤ X)) → F / 16 % 64 ≡ q
near_place F X G q e v (inl f) = omega arith
near_place F X G q e v (inr (f, h)) = omega arith

owned : (s : Settings) (F X G : ℕ) (p : Place) → 1 ≤ X → X ≤ 53 → EndsWindow s G 53 p
    → slot_number F X ≤ slot_number G 53 → slot_number G 53 < slot_number F X + 73 → owner s F X ≡ Some p
owned s F X G p a b e c d =
    let k = ends_frame s G 53 p e in
    let n = near F X G a b c d in
    windowed_owner s F X (near_window F X G k.1 b n) ∙ ap Some (is_place (F / 16) p (near_place F X G p.value k.1 k.2 n))

apart : (s : Settings) (F G : ℕ) (p q : Place) → EndsWindow s F 53 p → EndsWindow s G 53 q → p ≢ q → (F + 16 ≤ G) ⊎ (G + 16 ≤ F)
apart s F G p q x y ne =
    let a = ends_frame s F 53 p x in
    let b = ends_frame s G 53 q y in
    elim (cases_order F G) [
      | inl e ↦ absurd (ne (same_place p q (omega arith)))
      | inr (inl l) ↦ inl (omega arith)
      | inr (inr l) ↦ inr (omega arith)
    ]

pub windows_stand : WindowsStand
windows_stand =
    record {
      ends = λ s F X p. (ends_frame s F X p, frame_ends_at s F X p);
      slots = λ F X a b.
          (λ e. of_window F X a b (inside F X e), λ (G, l, c, d). near_window F X G (last_frame G 53 l).0 b (near F X G a b c d));
      owned = owned;
      apart = apart;
    }

-- Rounds
some_cond : {A : Type 0} (b : Bool) (x y : A) → cond b (Some x) None ≡ Some y → (b ≡ true) × (x ≡ y)
some_cond true x y e = (refl, some_same e)
some_cond false x y e = (cc, cc)

start_test : (F : ℕ) (p : Place) → starting F ≡ Some p → (F % 16 ≡ 7) × ((F / 16 + 63) % 64 ≡ p.value)
start_test F p e =
    let k = some_cond (eqb (F % 16) 7) (place_of (F / 16 + 63)) p e in (eqb-true (F % 16) 7 k.0, place_is (F / 16 + 63) p k.1)

pub starts_in : (F : ℕ) (p : Place) → starting F ≡ Some p → F % 1024 ≡ (16 * p.value + 23) % 1024
starts_in F p e = let k = start_test F p e in let h : p.value ≤ 63 = p.high in omega arith

in_starts : (F : ℕ) (p : Place) → F % 1024 ≡ (16 * p.value + 23) % 1024 → starting F ≡ Some p
in_starts F p e =
    let h : p.value ≤ 63 = p.high in
    let seven : F % 16 ≡ 7 = omega arith in
    let place : (F / 16 + 63) % 64 ≡ p.value = omega arith in
    cond-true (eqb (F % 16) 7) (Some (place_of (F / 16 + 63))) None (eq-eqb (F % 16) 7 seven) ∙ ap Some (is_place (F / 16 + 63) p place)

window_after : (s : Settings) (S : ℕ) (p : Place) → starting S ≡ Some p → EndsWindow s (S + 1016) 53 p
window_after s S p e = let k = starts_in S p e in let h : p.value ≤ 63 = p.high in frame_ends s (S + 1016) p (omega arith) (omega arith)

none_before : (s : Settings) (S F X : ℕ) (p : Place) → starting S ≡ Some p → EndsWindow s F X p → S ≤ F → S + 1016 ≤ F
none_before s S F X p e x l =
    let k = starts_in S p e in
    let w = ends_frame s F X p x in
    let h : p.value ≤ 63 = p.high in
    let m : F % 1024 ≡ 16 * p.value + 15 = omega arith in omega arith

pub rounds_stand : RoundsStand
rounds_stand =
    record { starts = λ F p. (starts_in F p, in_starts F p); window_after = window_after; none_before = none_before }
