-- The jobs that run: whose round it is, and when it ends.
use Rattle.std.proofs.Common.{◌≡◌, ℕ, suc, ◌+◌, ◌*◌, ◌<◌, ◌≤◌, Bool, true, false, cond, eqb, Some, None, Option, ◌⊎◌, inl, inr, refl, sym, ap₂, ◌∙◌, subst, arith}
use Rattle.std.proofs.Math.Logic.{⊎_elim}
use Rattle.std.proofs.lemmas.Bool.{both_ways, cond_both, cases_lt}
use Rattle.std.proofs.lemmas.Bool.Decides.{nat_tests}
use Rattle.report.specs.declared.record.Record.{Record}
use Rattle.rules.proofs.Geometry.{rounds_stand, starts_in}
use Rattle.rules.specs.Alarm.{by_cause, counted}
use Rattle.rules.specs.Job.{measured, by_measure, confirmed, failed, failed_lit, is_dark, served, job_ends}
use Rattle.rules.specs.Schedule.{Place, window, last, owner, starting}
use Rattle.rules.specs.Settle.{counts, row_after}
use Rattle.rules.specs.declared.alarm.Alarms.{Alarms}
use Rattle.rules.specs.declared.alarm.Cause.{Cause}
use Rattle.rules.specs.declared.job.Job.{Job}
use Rattle.rules.specs.declared.job.Job.TheVariants.{BringUp, Tell, Stop, Hold, Free}
use Rattle.rules.specs.declared.row.Row.{Row}
use Rattle.rules.specs.declared.settings.Settings.{Settings}
use Rattle.line.specs.Kept.{KeptRow}
use Rattle.line.proofs.Keeping.{settled_row}
use Rattle.line.proofs.Places.{Its}

-- n is the first slot that is not settled: the window of the round has its last slot there or later
pub record Busy (now n q : ℕ) : Type 0 where
  pub place : Place
  pub at : q ≡ place.value
  pub start : ℕ
  pub starts : starting start ≡ Some place
  pub sent : start < now
  pub due : n ≤ 53 * (start + 1016) + 52

abbrev Due : (now n q : ℕ) → Option Job → Type 0
Due now n q j = (j ≡ None) ⊎ Busy now n q

-- a record, and when its round ends
pub record Good (now n q : ℕ) (r : Row) : Type 0 where
  pub kept : KeptRow now r
  pub due : Due now n q r.running

-- no job runs any more when the next round starts
pub idle_start : (now oldest out q : ℕ) (p : Place) (j : Option Job) → oldest + out ≡ now → out ≤ 4 → starting now ≡ Some p → q ≡ p.value
    → Due now (53 * oldest) q j → j ≡ None
idle_start now oldest out q p j e few s a d =
    ⊎_elim (λ idle. idle)
    (λ (b : Busy now (53 * oldest) q).
    let x = starts_in b.start b.place b.starts in
    let y = starts_in now p s in
    let same : b.place.value ≡ p.value = sym b.at ∙ a in
    let sent : b.start < now = b.sent in
    let due : 53 * oldest ≤ 53 * (b.start + 1016) + 52 = b.due in
    absurd (omega arith))
    d

-- one slot on, unless it is the last of the window
pub due_on : (s : Settings) (now F k q : ℕ) (j : Option Job) → k < 53 → (last F (suc k) ≡ true → Its (owner s F (suc k)) q → ⊥)
    → Due now (53 * F + k) q j → Due now (53 * F + suc k) q j
due_on s now F k q j few other d =
    ⊎_elim (λ idle. inl idle)
    (λ (b : Busy now (53 * F + k) q).
    let due : 53 * F + k ≤ 53 * (b.start + 1016) + 52 = b.due in
    ⊎_elim
    (λ (l : 53 * F + k < 53 * (b.start + 1016) + 52).
    inr (record { place = b.place; at = b.at; start = b.start; starts = b.starts; sent = b.sent; due = omega arith }))
    (λ (g : 53 * (b.start + 1016) + 52 ≤ 53 * F + k).
    let f : F ≡ b.start + 1016 = omega arith in
    let x : suc k ≡ 53 = omega arith in
    let w = rounds_stand.window_after s b.start b.place b.starts in
    absurd (other (ap₂ last f x ∙ w.0) (b.place, ap₂ (owner s) f x ∙ w.1, b.at)))
    (cases_lt (53 * F + k) (53 * (b.start + 1016) + 52)))
    d

failed_idle : (dark : Bool) (r : Row) → (failed_lit dark r).running ≡ None
failed_idle true r = refl
failed_idle false r = refl

not_last : (b : Bool) → (b ≡ true → ⊥) → b ≡ false
not_last true f = absurd (f refl)
not_last false f = refl

-- the job that ends runs no more, and an alarm touches no running one
ends_idle : (j : Option Job) (guard now : ℕ) (x : Record) (r : Row) → r.running ≡ j → (job_ends j guard now x r).running ≡ None
ends_idle None guard now x r e = e
ends_idle (Some BringUp) guard now x r e = measure_idle (measured x r) x r
  where
    measure_idle : (m : Option ℕ) (x : Record) (r : Row) → (by_measure m x r).running ≡ None
    measure_idle None x r = failed_idle (is_dark x.light) r
    measure_idle (Some d) x r = refl
ends_idle (Some Tell) guard now x r e =
    cond_both (confirmed guard x) (served now r) (failed x r) (λ y. y.running ≡ None) (λ _. refl) (λ _. failed_idle (is_dark x.light) r)
ends_idle (Some Stop) guard now x r e = refl
ends_idle (Some Hold) guard now x r e = refl
ends_idle (Some Free) guard now x r e = refl

cause_runs : (o : Option Cause) (a : Alarms) (r : Row) → (by_cause o a r).running ≡ r.running
cause_runs None a r = refl
cause_runs (Some c) a r = refl

last_window : (F X : ℕ) → last F X ≡ true → window F X ≡ true
last_window F X e = grind (arith, nat_tests)

-- the record of the slot of a place
pub settled_good : (s : Settings) (now F k : ℕ) (p : Place) (x : Record) (r : Row) → k < 53 → owner s F (suc k) ≡ Some p
    → Good now (53 * F + k) p.value r → Good now (53 * F + suc k) p.value (row_after s.guard.value now F (suc k) x r)
settled_good s now F k p x r few own g =
    let G = s.guard.value in
    let Next = λ (y : Row). Due now (53 * F + suc k) p.value y.running in
    let on : last F (suc k) ≡ false → Next r = λ e. due_on s now F k p.value r.running few (λ t _. both_ways _ e t) g.due in
    record {
      kept = settled_row now r g.kept G F (suc k) x;
      due = cond_both (window F (suc k)) (cond (last F (suc k)) (job_ends r.running G now x r) r) (cond (counts F r) (counted G (eqb (suc k) 1) x r) r) Next
          (λ _. cond_both (last F (suc k)) (job_ends r.running G now x r) r Next (λ _. inl (ends_idle r.running G now x r refl)) on)
          (λ w.
          let off : last F (suc k) ≡ false = not_last (last F (suc k)) (λ t. both_ways _ w (last_window F (suc k) t)) in
          cond_both (counts F r) (counted G (eqb (suc k) 1) x r) r Next
          (λ _. subst (Due now (53 * F + suc k) p.value) (sym (cause_runs _ _ _)) (on off)) (λ _. on off));
    }
