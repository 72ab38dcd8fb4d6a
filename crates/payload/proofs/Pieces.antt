-- A cell written piece after piece is its pieces, one after the other.
use Rattle.std.proofs.Common.{◌≡◌, ℕ, ◌+◌, ◌≤◌, Bool, true, false, List, ◌++◌, length, take, sym, refl, ap, ◌∙◌, append-nil, arith, rules}
use mir.Val.{bool_byte}
use borrow.Rule.Slice.PartMut.{put_mid, post_of}
use Rattle.std.proofs.lemmas.Slice.{overwrites}
use Rattle.std.proofs.lemmas.List.{take_all}
use Rattle.message.specs.Downstream.{flag_byte}

-- a flag as the code makes it of a truth value
pub flag_byte_lem : (b : Bool) → bool_byte b ≡ flag_byte b
flag_byte_lem true = refl
flag_byte_lem false = refl

-- each front is the one before with a piece more, and the last is the whole list
pub pieces : (a b c d e f g o1 o2 o3 o4 o5 o6 o7 : List ℕ) → take 3 o1 ≡ a → take 11 o2 ≡ take 3 o1 ++ b → take 19 o3 ≡ take 11 o2 ++ c → take 27 o4 ≡ take 19 o3 ++ d → take 34 o5 ≡ take 27 o4 ++ e → take 47 o6 ≡ take 34 o5 ++ f → take 48 o7 ≡ take 47 o6 ++ g → length o7 ≡ 48 → o7 ≡ a ++ b ++ c ++ d ++ e ++ f ++ g
pieces a b c d e f g o1 o2 o3 o4 o5 o6 o7 p q r s t u v h =
    let long : length o7 ≤ 48 = omega arith in
    let whole : take 48 o7 ≡ o7 = take_all 48 o7 long in cc

-- the same of any items, in one piece and in two
pub one_piece : (a o : List ℕ) (n : ℕ) → take n o ≡ a → length o ≡ n → o ≡ a
one_piece a o n p h = let long : length o ≤ n = omega arith in sym (take_all n o long) ∙ p

pub two_pieces : (a b o1 o2 : List ℕ) (n m : ℕ) → take n o1 ≡ a → take m o2 ≡ take n o1 ++ b → length o2 ≡ m → o2 ≡ a ++ b
two_pieces a b o1 o2 n m p q h = one_piece (a ++ b) o2 m (q ∙ ap (λ front. front ++ b) p) h

pub four_pieces : (a b c d o1 o2 o3 o4 : List ℕ) → take 7 o1 ≡ a → take 14 o2 ≡ take 7 o1 ++ b → take 21 o3 ≡ take 14 o2 ++ c → take 27 o4 ≡ take 21 o3 ++ d → length o4 ≡ 27 → o4 ≡ a ++ b ++ c ++ d
four_pieces a b c d o1 o2 o3 o4 p q r s h = one_piece (a ++ b ++ c ++ d) o4 27 (cc) h

-- two halves written over a list of twice their length
pub halves : (out a b : List ℕ) → length out ≡ 96 → length a ≡ 48 → length b ≡ 48 → put_mid 48 48 (a ++ post_of 0 48 out) b ≡ a ++ b
halves out a b h k l = let long : length out ≤ 48 + 48 = omega arith in search (rules, overwrites, append-nil)
