-- What each step of a place's record keeps of it.
use Rattle.std.proofs.Common.{◌≡◌, ◌≢◌, ℕ, ◌≤◌, Bool, true, false, cond, ◌||◌, ◌&&◌, eqb, nat_le, Some, None, Option, refl, sym, ap, ◌∙◌, subst, arith}
use Rattle.std.proofs.lemmas.Bool.{cond_both, and_parts}
use Rattle.std.proofs.lemmas.Bool.Decides.{nat_tests}
use Rattle.report.specs.declared.offset.Offset.{Offset}
use Rattle.report.specs.declared.offset.Offset.TheVariants.{Early, Late}
use Rattle.report.specs.declared.record.Light.{Light}
use Rattle.report.specs.declared.record.Light.TheVariants.{Dark, Broken, Ploam, Data}
use Rattle.report.specs.declared.record.Record.{Record}
use Rattle.rules.specs.Alarm.{up, dark_after, broken_after, missed_after, counts_after, is_cell, alarms_reached, cause_of, by_cause, with_counts}
use Rattle.rules.specs.Job.{begun, is_dark, lit, wanted, measured, own_cell, by_measure, confirmed, failed_lit, served, job_ends}
use Rattle.rules.specs.Row.{Serial, blank, no_alarms, no_counts, in_service, entered, held, released}
use Rattle.rules.specs.Schedule.{window, last}
use Rattle.rules.specs.Settle.{counts, row_after}
use Rattle.rules.specs.declared.alarm.Alarms.{Alarms}
use Rattle.rules.specs.declared.alarm.Cause.{Cause}
use Rattle.rules.specs.declared.alarm.Counts.{Counts}
use Rattle.rules.specs.declared.job.Job.{Job}
use Rattle.rules.specs.declared.job.Job.TheVariants.{BringUp, Tell, Stop, Hold, Free}
use Rattle.rules.specs.declared.row.Phase.{Phase}
use Rattle.rules.specs.declared.row.Phase.TheVariants.{Empty, Held, Waiting, InService}
use Rattle.rules.specs.declared.row.Row.{Row}
use Rattle.line.specs.Kept.{Jobs, Serves, Watched, KeptRow}

-- Jobs
-- a job other than hold runs at a place that waits, and is its only one
at_work : (ph : Phase) (j : Job) (k : Option Job) → j ≢ Hold → Jobs ph (Some j) k → ph ≡ Waiting
at_work Empty j k ne h = absurd cc
at_work Held j None ne h = absurd (ne h)
at_work Held j (Some i) ne h = absurd h
at_work Waiting j k ne h = refl
at_work InService j k ne h = absurd cc

-- hold runs at a held place, and is its only one
at_hold : (ph : Phase) (k : Option Job) → Jobs ph (Some Hold) k → (ph ≡ Held) × (k ≡ None)
at_hold Empty k h = absurd cc
at_hold Held None h = (refl, refl)
at_hold Held (Some i) h = absurd h
at_hold Waiting None h = absurd (h refl)
at_hold Waiting (Some i) h = absurd h
at_hold InService k h = absurd cc

-- what was next runs, where nothing ran
begun_jobs : (ph : Phase) (k : Option Job) → Jobs ph None k → Jobs ph k None
begun_jobs Empty k h = (h.1, h.0)
begun_jobs Held None h = h
begun_jobs Held (Some i) h = h
begun_jobs Waiting None h = h
begun_jobs Waiting (Some i) h = h
begun_jobs InService k h = (h.1, h.0)

serving_is : (ph : Phase) → in_service ph ≡ true → ph ≡ InService
serving_is Empty e = cc
serving_is Held e = cc
serving_is Waiting e = cc
serving_is InService e = refl

-- Counts
up_most : (most n : ℕ) → up most n ≤ most
up_most most n = grind (arith, nat_tests)

up_two : (most n : ℕ) → 2 ≤ most → (nat_le 2 n || nat_le 1 n) ≡ nat_le 2 (up most n)
up_two most n h = grind (arith, nat_tests)

dark_most : (l : Light) (n : ℕ) → dark_after l n ≤ 8
dark_most Dark n = up_most 8 n
dark_most Broken n = omega arith
dark_most Ploam n = omega arith
dark_most Data n = omega arith

broken_most : (l : Light) (n : ℕ) → broken_after l n ≤ 8
broken_most Dark n = omega arith
broken_most Broken n = up_most 8 n
broken_most Ploam n = omega arith
broken_most Data n = omega arith

missed_most : (l : Light) (n : ℕ) → missed_after l n ≤ 3
missed_most Dark n = up_most 3 n
missed_most Broken n = up_most 3 n
missed_most Ploam n = omega arith
missed_most Data n = up_most 3 n

turn_most : (ploam : Bool) (l : Light) (n : ℕ) → n ≤ 3 → cond ploam (missed_after l n) n ≤ 3
turn_most true l n h = missed_most l n
turn_most false l n h = h

-- Alarms
-- nothing is on and nothing is counted
nothing_on : Watched no_alarms None 0 no_counts
nothing_on =
    record { first = refl; suf = refl; los = λ e. absurd cc; lcd = λ e. absurd cc; dark = omega arith; broken = omega arith; missed = omega arith }

-- no alarm ends service: no count has reached its own
no_cause : (los lcd oaml cpe suf : Bool) → cause_of (record { los = los; lcd = lcd; oaml = oaml; cpe = cpe; suf = suf }) ≡ None
    → (los ≡ false) × (lcd ≡ false) × (oaml ≡ false)
no_cause true lcd oaml cpe suf e = absurd cc
no_cause false true oaml cpe suf e = absurd cc
no_cause false false true cpe suf e = absurd cc
no_cause false false false cpe suf e = (refl, refl, refl)

still_serves : (guard : ℕ) (x : Record) (c k : Counts) (d : Option ℕ) (a : Alarms) (f : ℕ) → cause_of (alarms_reached guard x c a.suf) ≡ None
    → Serves d a f k → Serves d a f c
still_serves guard x c k d a f e s =
    let n = no_cause _ _ _ _ a.suf e in
    record { measured = s.measured; calm = s.calm; again = s.again; dark = grind (arith, nat_tests); broken = grind (arith, nat_tests); missed = grind (arith, nat_tests) }

-- LOS takes a dark record, LCD a broken one, CPE a cell
light_apart : (l : Light) (d b : ℕ) (off : Bool) → (nat_le 8 (dark_after l d) ≡ true → (nat_le 8 (broken_after l b) ≡ false) × ((is_cell l && off) ≡ false))
    × (nat_le 8 (broken_after l b) ≡ true → (is_cell l && off) ≡ false)
light_apart Dark d b off = ((λ _. (refl, refl)), (λ _. refl))
light_apart Broken d b off = ((λ e. absurd cc), (λ _. refl))
light_apart Ploam d b off = ((λ e. absurd cc), (λ e. absurd cc))
light_apart Data d b off = ((λ e. absurd cc), (λ e. absurd cc))

-- Rows
pub later_row : (now m : ℕ) (r : Row) → now ≤ m → KeptRow now r → KeptRow m r
later_row now m r h k =
    let s : r.since ≤ now = k.since in
    record { delay = k.delay; empty = k.empty; jobs = k.jobs; telling = k.telling; tells = k.tells; service = k.service; watched = k.watched; since = omega arith }

pub blank_row : (now : ℕ) → KeptRow now blank
blank_row now =
    record {
      delay = λ d e. absurd cc;
      empty = λ _. refl;
      jobs = (refl, refl);
      telling = λ e. absurd cc;
      tells = λ e. absurd cc;
      service = λ e. absurd cc;
      watched = nothing_on;
      since = omega arith;
    }

pub entered_row : (now : ℕ) (n : Serial) → KeptRow now (entered n)
entered_row now n =
    record {
      delay = λ d e. absurd cc;
      empty = λ e. absurd cc;
      jobs = λ e. cc;
      telling = λ e. absurd cc;
      tells = λ e. absurd cc;
      service = λ e. absurd cc;
      watched = nothing_on;
      since = omega arith;
    }

-- another phase and other jobs, all else kept
moved_row : (now : ℕ) (r : Row) (ph : Phase) (j k : Option Job) → KeptRow now r → Jobs ph j k
    → (ph ≡ Empty → record r { phase = ph; running = j; next = k } ≡ blank) → (ph ≡ InService → r.phase ≡ InService)
    → (j ≡ Some Tell → r.delay ≢ None) → (k ≡ Some Tell → r.delay ≢ None)
    → KeptRow now (record r { phase = ph; running = j; next = k })
moved_row now r ph j k kept jobs empty serves telling tells =
    record {
      delay = kept.delay;
      empty = empty;
      jobs = jobs;
      telling = telling;
      tells = tells;
      service = λ e. kept.service (serves e);
      watched = kept.watched;
      since = kept.since;
    }

-- a round starts where no job runs any more
pub begun_row : (now : ℕ) (r : Row) → r.running ≡ None → KeptRow now r → KeptRow now (begun r)
begun_row now r idle k =
    moved_row now r r.phase r.next None k (begun_jobs r.phase r.next (subst (λ j. Jobs r.phase j r.next) idle k.jobs))
    (λ e. ap begun (k.empty e)) (λ e. e) k.tells (λ e. absurd cc)

pub held_row : (now : ℕ) (r : Row) → KeptRow now r → KeptRow now (held r)
held_row now r k = moved_row now r Held None (Some Hold) k refl (λ e. absurd cc) (λ e. absurd cc) (λ e. absurd cc) (λ e. absurd cc)

pub released_row : (now : ℕ) (r : Row) → KeptRow now r → KeptRow now (released r)
released_row now r k = moved_row now r Waiting None (Some Free) k (λ e. cc) (λ e. absurd cc) (λ e. absurd cc) (λ e. absurd cc) (λ e. absurd cc)

wanted_most : (o : Offset) (d : ℕ) → wanted o ≡ Some d → d ≤ 32000
wanted_most (Early n) d e = grind (arith, nat_tests)
wanted_most (Late n) d e = grind (arith, nat_tests)

measured_most : (own : Bool) (o : Offset) (d : ℕ) → cond own (wanted o) None ≡ Some d → d ≤ 32000
measured_most true o d e = wanted_most o d e
measured_most false o d e = absurd cc

module _ (now : ℕ) (r : Row) (k : KeptRow now r) where
  -- the jobs of a waiting place, of which one is next
  next_job : (i : Job) → i ≢ Hold → r.phase ≡ Waiting → Jobs r.phase None (Some i)
  next_job i ne w = subst (λ p. Jobs p None (Some i)) (sym w) ne

  onward : (i : Job) → i ≢ Hold → i ≢ Tell → r.phase ≡ Waiting → KeptRow now (record r { running = None; next = Some i })
  onward i ne other w =
      moved_row now r r.phase None (Some i) k (next_job i ne w) (λ e. absurd cc) (λ e. absurd cc) (λ e. absurd cc) (λ e. absurd (other cc))

  failed_row : (dark : Bool) → r.phase ≡ Waiting → KeptRow now (failed_lit dark r)
  failed_row true w = onward Stop (λ e. cc) (λ e. cc) w
  failed_row false w =
      let v = k.watched in
      let two = ap (λ b. b || nat_le 1 r.failures) v.suf ∙ up_two 18446744073709551615 r.failures (omega arith) in
      record {
        delay = k.delay;
        empty = λ e. absurd cc;
        jobs = next_job Stop (λ e. cc) w;
        telling = λ e. absurd cc;
        tells = λ e. absurd cc;
        service = λ e. absurd cc;
        watched = record { first = v.first; suf = two; los = v.los; lcd = v.lcd; dark = v.dark; broken = v.broken; missed = v.missed };
        since = k.since;
      }

  measure_row : (m : Option ℕ) (x : Record) → measured x r ≡ m → r.phase ≡ Waiting → KeptRow now (by_measure m x r)
  measure_row None x e w = failed_row (is_dark x.light) w
  measure_row (Some d) x e w =
      record {
        delay = λ c f. measured_most (own_cell x r) x.offset c (e ∙ f);
        empty = λ e. absurd cc;
        jobs = next_job Tell (λ e. cc) w;
        telling = λ e. absurd cc;
        tells = λ _ e. cc;
        service = λ e. absurd cc;
        watched = k.watched;
        since = k.since;
      }

  served_row : r.running ≡ Some Tell → r.phase ≡ Waiting → KeptRow now (served now r)
  served_row j w =
      let p : lit r.phase ≡ InService = ap lit w in
      record {
        delay = k.delay;
        empty = λ e. absurd cc;
        jobs = subst (λ p. Jobs p None None) (sym p) (refl, refl);
        telling = λ e. absurd cc;
        tells = λ e. absurd cc;
        service = λ _. record { measured = k.telling j; calm = refl; again = refl; dark = omega arith; broken = omega arith; missed = omega arith };
        watched = nothing_on;
        since = omega arith;
      }

  waits : (j : Job) → j ≢ Hold → r.running ≡ Some j → r.phase ≡ Waiting
  waits j ne e = at_work r.phase j r.next ne (subst (λ i. Jobs r.phase i r.next) e k.jobs)

  -- the running job ends
  ends_row : (j : Option Job) (guard : ℕ) (x : Record) → r.running ≡ j → KeptRow now (job_ends j guard now x r)
  ends_row None guard x e = k
  ends_row (Some BringUp) guard x e = measure_row (measured x r) x refl (waits BringUp (λ e. cc) e)
  ends_row (Some Tell) guard x e =
      cond_both (confirmed guard x) _ _ (KeptRow now) (λ _. served_row e (waits Tell (λ e. cc) e)) (λ _. failed_row (is_dark x.light) (waits Tell (λ e. cc) e))
  ends_row (Some Stop) guard x e = onward BringUp (λ e. cc) (λ e. cc) (waits Stop (λ e. cc) e)
  ends_row (Some Hold) guard x e =
      let h = at_hold r.phase r.next (subst (λ i. Jobs r.phase i r.next) e k.jobs) in
      let jobs = subst (λ p. Jobs p None r.next) (sym h.0) (subst (λ n. Jobs Held None n) (sym h.1) tt) in
      moved_row now r r.phase None r.next k jobs (λ e. absurd cc) (λ e. e) (λ e. absurd cc) k.tells
  ends_row (Some Free) guard x e = onward BringUp (λ e. cc) (λ e. cc) (waits Free (λ e. cc) e)

  -- an alarm ends service, or counts go on
  cause_row : (o : Option Cause) (guard : ℕ) (ploam : Bool) (x : Record) → r.phase ≡ InService
      → cause_of (alarms_reached guard x (counts_after ploam x.light r.counts) r.alarms.suf) ≡ o
      → KeptRow now (by_cause o (alarms_reached guard x (counts_after ploam x.light r.counts) r.alarms.suf) (with_counts (counts_after ploam x.light r.counts) r))
  cause_row None guard ploam x v e =
      let w = k.watched in
      let more = counts_after ploam x.light r.counts in
      record {
        delay = k.delay;
        empty = λ e. absurd cc;
        jobs = k.jobs;
        telling = k.telling;
        tells = k.tells;
        service = λ _. still_serves guard x more r.counts r.delay r.alarms r.failures e (k.service v);
        watched = record {
          first = w.first;
          suf = w.suf;
          los = w.los;
          lcd = w.lcd;
          dark = dark_most x.light r.counts.dark;
          broken = broken_most x.light r.counts.broken;
          missed = turn_most ploam x.light r.counts.missed w.missed;
        };
        since = k.since;
      }
  cause_row (Some c) guard ploam x v e =
      let w = k.watched in
      let none = subst (λ p. Jobs p r.running r.next) v k.jobs in
      let one = light_apart x.light r.counts.dark r.counts.broken _ in
      record {
        delay = k.delay;
        empty = λ e. absurd cc;
        jobs = subst (λ j. Jobs Waiting j (Some Stop)) (sym none.0) (λ e. cc);
        telling = k.telling;
        tells = λ e. absurd cc;
        service = λ e. absurd cc;
        watched = record {
          first = sym e;
          suf = w.suf;
          los = one.0;
          lcd = one.1;
          dark = dark_most x.light r.counts.dark;
          broken = broken_most x.light r.counts.broken;
          missed = turn_most ploam x.light r.counts.missed w.missed;
        };
        since = k.since;
      }

  -- one record of a report
  pub settled_row : (guard F X : ℕ) (x : Record) → KeptRow now (row_after guard now F X x r)
  settled_row guard F X x =
      cond_both (window F X) _ _ (KeptRow now)
      (λ _. cond_both (last F X) _ _ (KeptRow now) (λ _. ends_row r.running guard x refl) (λ _. k))
      (λ _. cond_both (counts F r) _ _ (KeptRow now) (λ t. cause_row _ guard (eqb X 1) x (serving_is r.phase (and_parts _ _ t).0) refl) (λ _. k))
