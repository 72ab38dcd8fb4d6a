-- What two calls say of the bursts of a slot.
use Rattle.std.proofs.Common.{◌≡◌, ℕ, ◌==◌, Bool, List, [], ◌∷◌, take, Option, Some, None, sym, refl, ap}
use Rattle.std.proofs.iter.Yields.{fronts}
use Rattle.std.proofs.lemmas.Iterator.{YieldsList, YieldsList-from_slice}
use Rattle.std.proofs.lemmas.Iterator.Consumers.{YieldsList-so_far, YieldsList-end, YieldsList-from_filter}
use Rattle.std.specs.Fn.{CalledAt}
use Rattle.std.specs.Iterator.Adapters.{filter_source, filter_callee, filter_steps}
use Rattle.std.specs.Slice.Iter.{iter_rest}
use Rattle.std.specs.declared.iter.Filter.{Filter}
use Rattle.std.specs.declared.slice.Iter.{Iter}
use denote.Param.Members.{Mut}
use denote.Ref.{Bor}
use Rattle.plant.specs.declared.burst.Burst.{Burst}
use Rattle.receiver.specs.Receiver.{dark, broken, answering, found_record, burst_record}

-- the filtered bursts are those that answer the slot
pub Yields-answering : {F : Type 0} {s : Filter (Iter Burst) F} {f : F} (g : Mut F (Bor (Bor Burst) × Unit {0}) Bool) (n : ℕ) (bs : List Burst)
    → iter_rest (filter_source s) ≡ bs → filter_callee s ≡ f → ((x : Bor Burst) (b : Bool) (q : F) → CalledAt g f x b q → (q ≡ f) × (b ≡ x.now.slot == n))
    → YieldsList (filter_steps fronts g) (λ y. y.now) s (answering n bs)
Yields-answering g n bs h k pure = YieldsList-from_filter g (λ (b : Burst). b.slot == n) (YieldsList-from_slice bs h) k pure

pub found_none : {S A : Type 0} {steps : S → Option A → S → Type 0} {v : A → Burst} {s : S} {bs : List Burst} (u : S) (n : ℕ)
    → steps s None u → YieldsList steps v s bs → found_record bs n ≡ dark
found_none u n h e = ap (λ (bs : List Burst). found_record bs n) (sym (YieldsList-end e [] _ refl None u refl h).0)

pub found_one : {S A : Type 0} {steps : S → Option A → S → Type 0} {v : A → Burst} {s : S} {bs : List Burst} (t u : S) (n : ℕ) (x : A)
    → steps s (Some x) t → steps t None u → YieldsList steps v s bs → found_record bs n ≡ burst_record (v x) n
found_one t u n x h k e =
    ap (λ (bs : List Burst). found_record bs n) (sym (YieldsList-end e (x ∷ []) t (t, h, refl) None u refl k).0)

two_break : (bs : List Burst) (n : ℕ) (b c : Burst) → b ∷ c ∷ [] ≡ take 2 bs → found_record bs n ≡ broken
two_break [] n b c h = cc
two_break (x ∷ []) n b c h = cc
two_break (x ∷ y ∷ bs) n b c h = refl

pub found_two : {S A : Type 0} {steps : S → Option A → S → Type 0} {v : A → Burst} {s : S} {bs : List Burst} (t u : S) (n : ℕ) (x y : A)
    → steps s (Some x) t → steps t (Some y) u → YieldsList steps v s bs → found_record bs n ≡ broken
found_two {v = v} {bs = bs} t u n x y h k e = two_break bs n (v x) (v y) (YieldsList-so_far e (x ∷ y ∷ []) u (t, h, (u, k, refl)))
