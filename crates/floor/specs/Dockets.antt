-- The dockets of the frames that are out.
use Rattle.std.specs.Prelude.{ℕ, suc, ◌+◌, Bool, true, ◌&&◌, ◌||◌, List, [], ◌∷◌, Ok, Err, Result, length, nat_eq, nat_lt, cond, Option, Some, None}
use Rattle.driver.specs.declared.halt.Halt.{Halt}
use Rattle.head.specs.declared.docket.Docket.{Docket}
use Rattle.head.specs.declared.head.Head.{Head}
use Rattle.head.specs.declared.refusal.Refusal.{Refusal}
use Rattle.head.specs.declared.refusal.Refusal.TheVariants as why

-- they are those of the frames just below a number, the oldest first
abbrev pub in_turn : ℕ → List Docket → Bool
in_turn f [] = true
in_turn f (d ∷ ds) = nat_eq (d.frame + suc (length ds)) f && in_turn f ds

-- one for each frame that is out, and none before the first call
abbrev pub held_for : (frame out : ℕ) → (started : Bool) → List Docket → Bool
held_for f o s ds = in_turn f ds && (nat_eq (length ds) o && (s || nat_eq o 0))

abbrev pub all_held : Head → List Docket → Bool
all_held h ds = held_for h.frame h.out h.started ds

-- with another one out, the newest is not the docket to settle
abbrev pub newest_answer : List Docket → Option Refusal
newest_answer ds = cond (nat_lt 1 (length ds)) (Some why.Docket) None

-- the docket of the frame that was sent
abbrev pub with_docket : Result ℕ Halt → Result Docket Halt
with_docket (Ok frame) = Ok (record { frame = frame })
with_docket (Err halt) = Err halt
