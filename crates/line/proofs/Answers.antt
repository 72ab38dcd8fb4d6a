-- Answers of the head's calls taken apart.
use Rattle.std.proofs.Common.{◌≡◌, Bool, true, false, Ok, Err, Result, refl}
use Rattle.head.specs.Steps.{ask, on_ok}
use Rattle.head.specs.declared.refusal.Refusal.{Refusal}

-- a call that was accepted had each question answered yes
pub asked : {A : Type 0} (b : Bool) (fault : Refusal) (r : Result A Refusal) (a : A) → ask b fault r ≡ Ok a → (b ≡ true) × (r ≡ Ok a)
asked true fault r a e = (refl, e)
asked false fault r a e = absurd cc

-- what holds after an accepted and after a refused call holds after the call
pub ok_both : {A X : Type 0} (r : Result A Refusal) (x y : X) (P : X → Type 0) → ((a : A) → r ≡ Ok a → P x) → ((e : Refusal) → r ≡ Err e → P y)
    → P (on_ok r x y)
ok_both (Ok a) x y P f g = f a refl
ok_both (Err e) x y P f g = g e refl

pub ok_is : {A X : Type 0} (r : Result A Refusal) (a : A) (x y : X) → r ≡ Ok a → on_ok r x y ≡ x
ok_is (Ok b) a x y e = refl
ok_is (Err f) a x y e = absurd cc
