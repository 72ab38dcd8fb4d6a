use Rattle.std.proofs.Common.{◌≡◌, ℕ, List, [], ◌∷◌, ◌++◌, take, ap, ◌∙◌, rules}
use Rattle.std.specs.List.{between}
use Rattle.field.specs.Check.{check_of}
use Rattle.message.specs.Downstream.{flag_byte}
use Rattle.payload.proofs.Pieces.{pieces, flag_byte_lem}
use Rattle.payload.proofs.contents.write.assemble.Goals as goal

abbrev sealed : List ℕ → List ℕ
sealed piece = piece ++ check_of piece ∷ []

-- the check byte that was computed is the right one
right : (front piece : List ℕ) {check wanted : ℕ} → check ≡ wanted → front ++ (piece ++ check ∷ []) ≡ front ++ (piece ++ wanted ∷ [])
right front piece e = ap (λ (n : ℕ). front ++ (piece ++ n ∷ [])) e

pub returns : goal.returns
returns c =
    let codes : List ℕ = c.args.codes.now in
    let message : List ℕ = c.args.message.now in
    let o1 : List ℕ = c.put.new.out in
    let o2 : List ℕ = c.put_checked.new.out in
    let o3 : List ℕ = c.put_checked-2.new.out in
    let o4 : List ℕ = c.put_checked-3.new.out in
    let o5 : List ℕ = c.put_checked-4.new.out in
    pieces (flag_byte c.args.first ∷ 0 ∷ 0 ∷ []) (sealed (between 0 7 codes)) (sealed (between 7 14 codes)) (sealed (between 14 21 codes))
    (between 21 27 codes ++ check_of (between 21 27 codes ++ 0 ∷ []) ∷ []) (sealed message) (0 ∷ []) o1 o2 o3 o4 o5 c.put_checked-5.new.out c.put-2.new.out
    (c.put.ensures ∙ ap (λ (n : ℕ). n ∷ 0 ∷ 0 ∷ []) (c.from.ensures ∙ flag_byte_lem c.args.first))
    (c.put_checked.ensures ∙ right (take 3 o1) (between 0 7 codes) c.check_byte.ensures)
    (c.put_checked-2.ensures ∙ right (take 11 o2) (between 7 14 codes) c.check_byte-2.ensures)
    (c.put_checked-3.ensures ∙ right (take 19 o3) (between 14 21 codes) c.check_byte-3.ensures)
    (c.put_checked-4.ensures ∙ right (take 27 o4) (between 21 27 codes) c.check_byte_and_zero.ensures)
    (c.put_checked-5.ensures ∙ right (take 34 o5) message c.check_byte-4.ensures)
    c.put-2.ensures (search rules)
