-- Reading a frame undoes writing it.
use Rattle.std.proofs.Common.{◌≡◌, ℕ, ◌≤◌, true, eqb, List, [], ◌∷◌, ◌++◌, length, take, drop, Ok, sym, refl, ap, ◌∙◌, arith}
use Rattle.std.specs.List.{between}
use Rattle.std.proofs.lemmas.Bool.{eq-eqb}
use Rattle.std.proofs.lemmas.List.{take_at, drop_at, take_all, take-append-drop, length-append, length-drop}
use Rattle.std.proofs.lemmas.List.Edits.{length-between}
use Rattle.field.specs.Octets.{picked, grants_of}
use Rattle.field.proofs.Runs.{all_picked, grants_again}
use Rattle.payload.specs.declared.frame.Frame.{Frame}
use Rattle.payload.specs.Cell.{cell_bytes}
use Rattle.payload.specs.Frame.{joined, frame_of, first_cell, second_cell, frame_bytes}
use Rattle.payload.proofs.CellAgain.{cell_again, cell-length}

-- the two halves of two cells
pub halves_again : (a b : List ℕ) → length a ≡ 48 → length b ≡ 48 → (between 0 48 (a ++ b) ≡ a) × (between 48 96 (a ++ b) ≡ b) × (length (a ++ b) ≡ 96)
halves_again a b h k =
    let l : length b ≤ 48 = omega arith in
    (take_at a b 48 h, ap (take 48) (drop_at a b 48 h) ∙ take_all 48 b l, length-append a b ∙ omega arith)

-- the 53 grants, parted over two cells and joined
parted : (p : List ℕ) (z : ℕ) → length p ≡ 53 → picked 0 27 (between 0 27 p) ++ between 0 26 (picked 0 27 (between 27 53 p ++ z ∷ [])) ≡ p
parted p z h =
    let m : length (between 0 27 p) ≡ 27 = length-between p 0 27 (omega arith) in
    let n : length (between 27 53 p) ≡ 26 = length-between p 27 53 (omega arith) in
    let o : length (between 27 53 p ++ z ∷ []) ≡ 27 = length-append (between 27 53 p) (z ∷ []) ∙ omega arith in
    let l : length (drop 27 p) ≤ 26 = omega (arith, length-drop 27 p) in
    ap (λ (xs : List ℕ). xs ++ between 0 26 (picked 0 27 (between 27 53 p ++ z ∷ []))) (sym (all_picked 27 (between 0 27 p) m))
    ∙ ap (λ (xs : List ℕ). between 0 27 p ++ between 0 26 xs) (sym (all_picked 27 (between 27 53 p ++ z ∷ []) o))
    ∙ ap (λ (xs : List ℕ). between 0 27 p ++ xs) (take_at (between 27 53 p) (z ∷ []) 26 n)
    ∙ ap (λ (xs : List ℕ). take 27 p ++ xs) (take_all 26 (drop 27 p) l)
    ∙ take-append-drop 27 p

codes-joined : (p : List ℕ) (z : ℕ) → length p ≡ 53 → (grants_of 27 (between 0 27 p)).codes ++ between 0 26 (grants_of 27 (between 27 53 p ++ z ∷ [])).codes ≡ p
unfolding grants_of
codes-joined p z h = parted p z h

grants-joined : (f : Frame) → joined (first_cell f).grants (second_cell f).grants ≡ f.grants
unfolding joined first_cell second_cell
grants-joined f = ap (grants_of 53) (codes-joined f.grants.codes 255 f.grants.full) ∙ grants_again f.grants

first_message : (f : Frame) → (first_cell f).message ≡ f.first
unfolding first_cell
first_message f = refl

second_message : (f : Frame) → (second_cell f).message ≡ f.second
unfolding second_cell
second_message f = refl

pub frame_again : (f : Frame) → frame_of (frame_bytes f) ≡ Ok f
unfolding frame_bytes
frame_again f =
    let h = halves_again (cell_bytes (first_cell f)) (cell_bytes (second_cell f)) (cell-length (first_cell f)) (cell-length (second_cell f)) in
    let t : eqb (length (cell_bytes (first_cell f) ++ cell_bytes (second_cell f))) 96 ≡ true = eq-eqb _ _ h.2 in
    rw (t, h.0, h.1, cell_again (first_cell f), cell_again (second_cell f), grants-joined f, first_message f, second_message f)
