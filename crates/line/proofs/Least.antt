-- The least round trip of each serial number, over the cells heard.
use Rattle.std.proofs.Common.{◌≡◌, ℕ, ◌≤◌, List, [], ◌∷◌, ◌++◌, ◌⊎◌, inl, inr, refl, sym, ap, ◌∙◌, arith}
use Rattle.std.proofs.lemmas.Bool.{cases_lt, cases_eq}
use Rattle.onu.specs.declared.state.Onu.{Onu}
use Rattle.line.specs.NoOverlap.{Steady}
use Rattle.line.specs.Run.{HeardCell}
use Rattle.line.proofs.Bursts.{among_one, among_none, among_append, among_left, among_right, among_contains}
use Rattle.line.proofs.Invariant.{Among, here, there, Fair}

-- no ONU of the number s has a lesser round trip, and one has it, or it is the most that there is
record Least (s : ℕ) (os : List Onu) : Type 0 where
  trip : ℕ
  below : (o : Onu) → Among o os → o.serial.value ≡ s → trip ≤ o.trip.value
  reached : (trip ≡ 35392) ⊎ ((o : Onu) × Among o os × (o.serial.value ≡ s) × (o.trip.value ≡ trip))

-- the least of one ONU more, where that does not count
kept : (s : ℕ) (o : Onu) (os : List Onu) (r : Least s os) → (o.serial.value ≡ s → r.trip ≤ o.trip.value) → Least s (o ∷ os)
kept s o os r h =
    record {
      trip = r.trip;
      below = λ a i e. elim (among_one i) [ inl x ↦ (let t = ap (λ y. y.trip.value) x in let k = h (ap (λ y. y.serial.value) (sym x) ∙ e) in omega arith) | inr j ↦ r.below a j e ];
      reached = elim r.reached [ inl e ↦ inl e | inr w ↦ inr (w.0, there w.1, w.2, w.3) ];
    }

-- and where its round trip is less than all others
lowered : (s : ℕ) (o : Onu) (os : List Onu) (r : Least s os) → o.serial.value ≡ s → o.trip.value ≤ r.trip → Least s (o ∷ os)
lowered s o os r e l =
    record {
      trip = o.trip.value;
      below = λ a i f. elim (among_one i) [ inl x ↦ (let t = ap (λ y. y.trip.value) x in omega arith) | inr j ↦ (let k = r.below a j f in omega arith) ];
      reached = inr (o, here, e, refl);
    }

-- the least of a list
least : (s : ℕ) (os : List Onu) → Least s os
least s [] = record { trip = 35392; below = λ o i. absurd (among_none i); reached = inl refl }
least s (o ∷ os) =
    let r = least s os in
    elim (cases_eq o.serial.value s) [
      | inl e ↦ (elim (cases_lt o.trip.value r.trip) [ inl l ↦ lowered s o os r e (omega arith) | inr l ↦ kept s o os r (λ _. l) ])
      | inr n ↦ kept s o os r (λ e. absurd (n e))
    ]

-- all ONUs of all cells
abbrev onus_of : List HeardCell → List Onu
onus_of [] = []
onus_of (c ∷ cells) = c.onus ++ onus_of cells

-- an ONU of a cell is one of them
among_onus : {c : HeardCell} {o : Onu} {cells : List HeardCell} → Among c cells → Among o c.onus → Among o (onus_of cells)
among_onus (here {xs = cells}) j = among_left (onus_of cells) j
among_onus (there {y = d} i) j = among_right d.onus (among_onus i j)

-- and each of them is one of a cell
cell_of : (o : Onu) (cells : List HeardCell) → Among o (onus_of cells) → (c : HeardCell) × Among c cells × Among o c.onus
cell_of o [] i = absurd (among_none i)
cell_of o (c ∷ cells) i =
    elim (among_append c.onus (onus_of cells) i) [ inl j ↦ (c, here, j) | inr j ↦ (let w = cell_of o cells j in (w.0, there w.1, w.2)) ]

-- from the least round trip of its number on, each ONU's varies by a quarter of the guard
pub fair : (G : ℕ) (cells : List HeardCell) → Steady G cells → (lo : ℕ → ℕ) × Fair lo G cells
fair G cells steady = (
  λ s. (least s (onus_of cells)).trip,
  λ c i o j.
      let r = least o.serial.value (onus_of cells) in
      let n = steady.near c (among_contains i) o (among_contains j) in
      record {
        least = n.0;
        most = n.1;
        above = r.below o (among_onus i j) refl;
        close = elim r.reached [
          | inl e ↦ omega arith
          | inr w ↦
              let k = cell_of w.0 cells w.1 in
              let x = steady.still c k.0 (among_contains i) (among_contains k.1) o w.0 (among_contains j) (among_contains k.2) (sym w.2) in omega arith
        ];
      },
)
