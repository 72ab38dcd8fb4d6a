-- When a place says nothing.
use Rattle.std.proofs.Common.{◌≡◌, ℕ, ◌+◌, ◌/◌, ◌%◌, ◌≤◌, true, List, Some, None, Option, refl, sym, ap, ◌∙◌, subst, arith}
use Rattle.message.specs.declared.downstream.Downstream.TheVariants.{NoMessage}
use Rattle.rules.proofs.Clamps.{place-value}
use Rattle.rules.specs.Job.{running_message, says}
use Rattle.rules.specs.Schedule.{Place, place_of, turn}
use Rattle.rules.specs.declared.job.Job.{Job}
use Rattle.rules.specs.declared.job.Job.TheVariants.{BringUp, Tell, Stop, Hold, Free}
use Rattle.rules.specs.declared.row.Row.{Row}
use Rattle.rules.specs.declared.settings.Settings.{Settings}
use Rattle.line.proofs.Bursts.{last_slot, last_whose}
use Rattle.line.proofs.Invariant.{row, lasts, whose}

-- without a running job
pub calm_says : (s : Settings) (F : ℕ) (p : Place) (r : Row) → r.running ≡ None → says s F p r ≡ NoMessage
calm_says s F p r e = ap (λ j. running_message s p r j (turn F p.value / 3)) e

-- no job has an eleventh message
eleventh : (s : Settings) (p : Place) (r : Row) (j : Option Job) → running_message s p r j 10 ≡ NoMessage
eleventh s p r None = refl
eleventh s p r (Some BringUp) = refl
eleventh s p r (Some Tell) = refl
eleventh s p r (Some Stop) = refl
eleventh s p r (Some Hold) = refl
eleventh s p r (Some Free) = refl

late_index : (F f q : ℕ) → f % 16 ≡ 15 → q ≡ f / 16 % 64 → f ≤ F → F ≤ f + 3 → turn F q / 3 ≡ 10
late_index F f q a b c d = omega arith

-- in a window's second frame and the three after it, the window's place says nothing
pub late_says : (s : Settings) (rows : List Row) (F n : ℕ) (p : Place) → lasts n ≡ true → whose s n ≡ Some p → n / 53 ≤ F → F ≤ n / 53 + 3
    → says s F p (row rows p.value) ≡ NoMessage
late_says s rows F n p ends owned low high =
    let k = last_slot n ends in
    let same : Some p ≡ Some (place_of (n / 53 / 16)) = sym owned ∙ last_whose s n ends in
    let is : p ≡ place_of (n / 53 / 16) = cc in
    let value : p.value ≡ n / 53 / 16 % 64 = ap (λ y. y.value) is ∙ place-value (n / 53 / 16) in
    let r = row rows p.value in
    subst (λ t. running_message s p r r.running t ≡ NoMessage) (sym (late_index F (n / 53) p.value k.0 value low high)) (eleventh s p r r.running)
