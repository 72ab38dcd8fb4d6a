-- Words that are fields.
use Rattle.std.proofs.Common.{◌≡◌, ◌≢◌, ℕ, Result, Ok, Err, Option, Some, None, List, [], ◌∷◌, ◌++◌, MatchOption, IfSome, refl, sym, ap, subst, ◌∙◌}
use Rattle.std.specs.Borrow.{Bor}
use Rattle.std.specs.Result.{IfOk, result_ok}
use Rattle.field.specs.declared.minislot.Minislot.{Minislot}
use Rattle.field.specs.Minislot.{minislot_of}
use Rattle.field.proofs.Bounds.{minislot_is}
use Rattle.keyed.specs.declared.key.Key.TheVariants as key
use Rattle.keyed.specs.Fields.{number}
use Rattle.keyed.specs.Words.{FirstWord, FirstWords}
use Rattle.cell_line.specs.Line.{field_word}

pub then_words : (words more : List (List ℕ)) (text mid rest : List ℕ) → FirstWords text words mid → FirstWords mid more rest → FirstWords text (words ++ more) rest
then_words [] more text mid rest e h = subst (λ t. FirstWords t more rest) (sym e) h
then_words (w ∷ words) more text mid rest h k = (h.0, h.1, then_words words more h.0 mid rest h.2 k)

-- what stands after a key and the sign
pub after_key : (r : Option (Bor (List ℕ))) (name behind word text rest : List ℕ) → word ≡ name ++ behind
    → MatchOption r ((more : List ℕ) → behind ≢ 61 ∷ more) (λ x. behind ≡ 61 ∷ x.now)
    → FirstWord text word rest → IfSome r (λ x. FirstWord text (name ++ (61 ∷ x.now)) rest)
after_key None name behind word text rest e m f = tt
after_key (Some x) name behind word text rest e m f = subst (λ w. FirstWord text w rest) (e ∙ ap (λ b. name ++ b) m) f

-- the part of a slot whose offset and length are the next words
pub slot_read : {E : Type 0} (text mid rest : List ℕ) (offset length : ℕ) (o : Option Minislot) (r : Result Minislot E) → o ≡ minislot_of offset length → o ≡ result_ok r
    → FirstWord text (field_word (number key.Offset offset)) mid → FirstWord mid (field_word (number key.Length length)) rest
    → IfOk r (λ part. FirstWords text (field_word (number key.Offset part.offset) ∷ (field_word (number key.Length part.length) ∷ [])) rest)
slot_read text mid rest offset length o (Err e) made is f g = tt
slot_read text mid rest offset length o (Ok part) made is f g =
    let same = minislot_is offset length part (sym made ∙ is) in (
      mid,
      subst (λ n. FirstWord text (field_word (number key.Offset n)) mid) (sym same.0) f,
      (rest, subst (λ n. FirstWord mid (field_word (number key.Length n)) rest) (sym same.1) g, refl),
    )
