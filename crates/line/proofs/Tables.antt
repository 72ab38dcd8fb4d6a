-- What a change of the table keeps of the invariant.
use Rattle.std.proofs.Common.{◌≡◌, ℕ, zero, suc, ◌+◌, ◌*◌, ◌/◌, ◌%◌, ◌<◌, ◌≤◌, Bool, true, false, not, List, [], ◌∷◌, length, Some, None, Option, ◌⊎◌, refl, sym, ap, subst, ap₂, ◌∙◌, ⊎_elim, inl, inr, arith, leb-true, eq-eqb}
use Rattle.std.proofs.lemmas.Bool.{both_ways, and_parts, and_from, cond_both, cases_Bool}
use Rattle.std.proofs.lemmas.Option.{none-some}
use Rattle.std.proofs.Math.ListN.{length-set}
use Rattle.std.specs.Prelude.{slice_set}
use Rattle.onu.specs.declared.state.Onu.{Onu}
use Rattle.plant.specs.declared.burst.Burst.{Burst}
use Rattle.report.specs.declared.record.Record.{Record}
use Rattle.rules.specs.Alarm.{by_cause, counted, with_counts}
use Rattle.rules.specs.Job.{begun, is_dark, wanted, measured, own_cell, confirmed, failed, served, by_measure, job_ends}
use Rattle.rules.specs.Row.{Serial, filled, entered, held, released, serving, is_empty, in_service}
use Rattle.rules.specs.Schedule.{Place, window, last, owner, starting}
use Rattle.rules.specs.Settle.{counts, row_after}
use Rattle.rules.specs.declared.alarm.Alarms.{Alarms}
use Rattle.rules.specs.declared.alarm.Cause.{Cause}
use Rattle.rules.specs.declared.alarm.Counts.{Counts}
use Rattle.rules.specs.declared.job.Job.{Job}
use Rattle.rules.specs.declared.job.Job.TheVariants.{BringUp, Tell, Stop, Hold, Free}
use Rattle.rules.specs.declared.row.Row.{Row}
use Rattle.rules.specs.declared.settings.Settings.{Settings}
use Rattle.head.specs.Table.{begun_rows, borne, changed_if, settled_one, settled_rows, records_from}
use Rattle.line.specs.Run.{TrueReport, TrueRecord}
use Rattle.line.proofs.Invariant.{row, loud, Among, Home, Fit, RowOk, lasts, whose, GuardFits, guard_of, Core}
use Rattle.line.proofs.Bursts.{guard_parts}
use Rattle.line.proofs.Rows.{at_set, Same, Later, good_later, sound_later, serving_filled, lit_filled, wanted_early, near, lit_burst, cond_some_of, borne_at}

module _ (lo : ℕ → ℕ) (s : Settings) (oldest upto : ℕ) (onus : List Onu) (bursts : List Burst) where
  abbrev pub Kept : List Row → Type 0
  Kept rows = Core lo s rows oldest upto onus bursts

  -- what a change must show of the record that place p gets
  record Fine (rows : List Row) (p : ℕ) (r : Row) : Type 0 where
    pub same : Same (row rows p) r
    pub ok : RowOk lo r
    pub fit : serving r ≡ true → (o : Onu) → Among o onus → Home rows p o.serial.value → loud o ≡ true → Fit lo (guard_of s) o

  -- one record changed, with place and serial number as they were
  set_core : (rows : List Row) (p : ℕ) (r : Row) → Kept rows → Fine rows p r → Kept (slice_set rows p r)
  set_core rows p r c f =
      let rows' : List Row = slice_set rows p r in
      let same : (q : ℕ) → Same (row rows q) (row rows' q) = at_set (λ q x. Same (row rows q) x) rows p r f.same (λ q. (refl, refl)) in
      let on : Later rows rows' = λ q n h. record { place = h.place; full = (same q).0 ∙ h.full; serial = (same q).1 ∙ h.serial } in
      let back : Later rows' rows = λ q n h. record { place = h.place; full = sym (same q).0 ∙ h.full; serial = sym (same q).1 ∙ h.serial } in
      record {
        records = at_set (λ _ x. RowOk lo x) rows p r f.ok c.records;
        unique = λ a b n x y. c.unique a b n (back a n x) (back b n y);
        good = λ o i. good_later lo rows rows' o on (c.good o i);
        distinct = c.distinct;
        service = λ q o i v h.
            at_set (λ k x. serving x ≡ true → (o : Onu) → Among o onus → Home rows k o.serial.value → loud o ≡ true → Fit lo (guard_of s) o) rows p r
            f.fit (λ k v o i h. c.service k o i v h) q v o i (back q o.serial.value h);
        pending = c.pending;
        sound = λ b i. sound_later lo s rows rows' upto b on (c.sound b i);
        pairs = c.pairs;
      }

  -- the same where there may be no place
  changed_core : (m : Option Place) (f : Row → Row) (rows : List Row) → Kept rows
      → ((p : Place) → m ≡ Some p → Fine rows p.value (f (row rows p.value))) → Kept (changed_if m f rows)
  changed_core None f rows c h = c
  changed_core (Some p) f rows c h = set_core rows p.value _ c (h p refl)

  -- the record as it was
  fine_same : (rows : List Row) (p : ℕ) → Kept rows → Fine rows p (row rows p)
  fine_same rows p c = record { same = (refl, refl); ok = c.records p; fit = λ v o i h. c.service p o i v h }

  -- a filled place that is not in service afterwards
  fine_off : (rows : List Row) (p : ℕ) (r : Row) → filled (row rows p) ≡ true → filled r ≡ true → serving r ≡ false
      → r.serial.value ≡ (row rows p).serial.value → ((d : ℕ) → r.delay ≡ Some d → d ≤ 32000 → d + lo r.serial.value ≤ 35392) → Fine rows p r
  fine_off rows p r f f' v e d =
      record {
        same = (f' ∙ sym f, e);
        ok = record { delay = d; calm = λ t. absurd (both_ways _ v t); void = λ t. absurd (both_ways _ t f') };
        fit = λ t. absurd (both_ways _ v t);
      }

  -- Rounds, holds, releases and entries
  pub begun_core : (F : ℕ) (rows : List Row) → Kept rows → Kept (begun_rows F rows)
  begun_core F rows c =
      changed_core (starting F) begun rows c (λ p _.
      let k = c.records p.value in
      record {
        same = (refl, refl);
        ok = record { delay = k.delay; calm = λ t. ((k.calm t).1, refl); void = λ t. ((k.void t).1, refl) };
        fit = λ v o i h. c.service p.value o i v h;
      })

  pub held_core : (rows : List Row) (p : ℕ) → filled (row rows p) ≡ true → Kept rows → Kept (slice_set rows p (held (row rows p)))
  held_core rows p f c = set_core rows p _ c (fine_off rows p _ f refl refl refl (c.records p).delay)

  pub released_core : (rows : List Row) (p : ℕ) → filled (row rows p) ≡ true → Kept rows → Kept (slice_set rows p (released (row rows p)))
  released_core rows p f c = set_core rows p _ c (fine_off rows p _ f refl refl refl (c.records p).delay)

  -- a home of the new table is the place entered, or was there
  entered_home : (rows : List Row) (p : ℕ) (n : Serial) (q m : ℕ) → Home (slice_set rows p (entered n)) q m
      → ((q ≡ p) × (n.value ≡ m)) ⊎ Home rows q m
  entered_home rows p n q m h =
      at_set (λ k x. k < 64 → filled x ≡ true → x.serial.value ≡ m → ((k ≡ p) × (n.value ≡ m)) ⊎ Home rows k m) rows p (entered n)
      (λ _ _ e. inl (refl, e)) (λ k l f e. inr (record { place = l; full = f; serial = e })) q h.place h.full h.serial

  -- who was there stays
  entered_later : (rows : List Row) (p : ℕ) (n : Serial) → filled (row rows p) ≡ false → Later rows (slice_set rows p (entered n))
  entered_later rows p n free q m h =
      let w = at_set (λ k x. Home rows k m → (filled x ≡ true) × (x.serial.value ≡ m)) rows p (entered n)
      (λ y. absurd (both_ways _ free y.full)) (λ k y. (y.full, y.serial)) q h in
      record { place = h.place; full = w.0; serial = w.1 }

  -- the number entered is new
  entered_lone : (rows : List Row) (n : Serial) (q : ℕ) → borne n rows ≡ false → Home rows q n.value → ⊥
  entered_lone rows n q new h = both_ways _ new (borne_at n rows q (and_from _ _ h.full (eq-eqb _ _ (sym h.serial))))

  pub entered_core : (rows : List Row) (p : ℕ) (n : Serial) → length rows ≡ 64 → filled (row rows p) ≡ false → borne n rows ≡ false → Kept rows
      → Kept (slice_set rows p (entered n))
  entered_core rows p n whole free new c =
      let rows' : List Row = slice_set rows p (entered n) in
      let on = entered_later rows p n free in
      let lone : (q m : ℕ) → n.value ≡ m → Home rows q m → ⊥ = λ q m e h. entered_lone rows n q new (subst (Home rows q) (sym e) h) in
      record {
        records = at_set (λ _ x. RowOk lo x) rows p (entered n)
            (record { delay = λ d e. absurd (none-some d e); calm = λ t. absurd (both_ways _ refl t); void = λ t. absurd (both_ways _ t refl) }) c.records;
        unique = λ a b m x y.
            ⊎_elim (λ u. ⊎_elim (λ v. u.0 ∙ sym v.0) (λ v. absurd (lone b m u.1 v)) (entered_home rows p n b m y))
            (λ u. ⊎_elim (λ v. absurd (lone a m v.1 u)) (λ v. c.unique a b m u v) (entered_home rows p n b m y)) (entered_home rows p n a m x);
        good = λ o i. good_later lo rows rows' o on (c.good o i);
        distinct = c.distinct;
        service = λ q o i v h.
            let w : serving (row rows q) ≡ true =
            at_set (λ k x. serving x ≡ true → serving (row rows k) ≡ true) rows p (entered n) (λ e. absurd (both_ways _ refl e)) (λ _ e. e) q v in
            ⊎_elim (λ u. absurd (both_ways _ free (serving_filled _ (subst (λ k. serving (row rows k) ≡ true) u.0 w)))) (λ u. c.service q o i w u)
            (entered_home rows p n q o.serial.value h);
        pending = c.pending;
        sound = λ b i. sound_later lo s rows rows' upto b on (c.sound b i);
        pairs = c.pairs;
      }

  -- Records of a report
  -- a running job: the place is filled, and not in service
  busy : (r : Row) (j : Job) → RowOk lo r → r.running ≡ Some j → (filled r ≡ true) × (serving r ≡ false)
  busy r j k e = (
    ⊎_elim (λ t. t) (λ t. absurd (none-some j (sym (k.void t).0 ∙ e))) (cases_Bool (filled r)),
    ⊎_elim (λ t. absurd (none-some j (sym (k.calm t).0 ∙ e))) (λ t. t) (cases_Bool (serving r)),
  )

  -- a job that ends with phase and serial number as they were
  fine_end : (rows : List Row) (p : ℕ) (r : Row) (j : Job) → Kept rows → (row rows p).running ≡ Some j → r.phase ≡ (row rows p).phase
      → r.serial ≡ (row rows p).serial → ((d : ℕ) → r.delay ≡ Some d → d ≤ 32000 → d + lo r.serial.value ≤ 35392) → Fine rows p r
  fine_end rows p r j c e ph se d =
      let b = busy (row rows p) j (c.records p) e in
      fine_off rows p r b.0 (ap (λ x. not (is_empty x)) ph ∙ b.0) (ap in_service ph ∙ b.1) (ap (λ x. x.value) se) d

  -- a job that fails
  failed_fine : (rows : List Row) (p : ℕ) (x : Record) (j : Job) → Kept rows → (row rows p).running ≡ Some j → Fine rows p (failed x (row rows p))
  failed_fine rows p x j c e =
      cond_both (is_dark x.light) _ _ (Fine rows p)
      (λ _. fine_end rows p _ j c e refl refl (c.records p).delay) (λ _. fine_end rows p _ j c e refl refl (c.records p).delay)

  -- the record of slot n, which falls to place p
  module _ (rows : List Row) (p : Place) (n now : ℕ) (x : Record) (c : Kept rows) (own : whose s n ≡ Some p) (heard : TrueRecord bursts n x) where
    abbrev r : Row
    r = row rows p.value

    -- the burst in the slot is that of the record's ONU
    same_serial : (b : Burst) → Among b bursts → b.slot ≡ n → r.serial.value ≡ b.serial.value
    same_serial b i at =
        let k = c.sound b i in
        let o : ◌≡◌ {A = Option Place} (Some k.place) (Some p) = sym k.owned ∙ ap (whose s) at ∙ own in
        let e : k.place ≡ p = cc in
        ap (λ (q : Place). (row rows q.value).serial.value) (sym e) ∙ k.home.serial

    -- a delay that bring-up measures is borne by the least round trip
    measured_fits : (d : ℕ) → measured x r ≡ Some d → d + lo r.serial.value ≤ 35392
    measured_fits d m =
        let a = cond_some_of (own_cell x r) (wanted x.offset) d m in
        let w = lit_burst bursts n x heard (and_parts _ _ a.0).0 in
        let b : Burst = w.0 in
        let e : b.start + d ≡ 448 * n + 35392 = wanted_early x.offset b.start (448 * n + 35392) d w.2.offset a.1 in
        let at : b.slot ≡ n = w.2.slot in
        let same : lo r.serial.value ≡ lo b.serial.value = ap lo (same_serial b w.1 at) in
        let low : 448 * b.slot + lo b.serial.value ≤ b.start = (c.sound b w.1).low in
        omega arith

    -- a burst that confirms shows that the register fits
    fit_confirmed : GuardFits (guard_of s) → lasts n ≡ true → 53 * oldest ≤ n → confirmed (guard_of s) x ≡ true
        → (o : Onu) → Among o onus → Home rows p.value o.serial.value → loud o ≡ true → Fit lo (guard_of s) o
    fit_confirmed fits l late t o i h loud_ =
        let a = and_parts _ _ t in
        let w = lit_burst bursts n x heard a.0 in
        let b : Burst = w.0 in
        let at : b.slot ≡ n = w.2.slot in
        let k = near x.offset b.start (448 * n + 35392) (guard_of s / 4) w.2.offset (leb-true _ _ a.1) in
        let q = c.pending b o w.1 i (omega arith) (subst (λ m. lasts m ≡ true) (sym at) l) (sym (same_serial b w.1 at) ∙ h.serial) loud_ in
        let parts = guard_parts (guard_of s) fits in
        record { late_enough = omega arith; soon_enough = omega arith }

    -- tell that succeeds
    served_fine : ((o : Onu) → Among o onus → Home rows p.value o.serial.value → loud o ≡ true → Fit lo (guard_of s) o)
        → Fine rows p.value (served now r)
    served_fine f =
        record {
          same = (lit_filled r.phase, refl);
          ok = record { delay = (c.records p.value).delay; calm = λ _. (refl, refl); void = λ _. (refl, refl) };
          fit = λ _. f;
        }

    -- bring-up, whether it measures or fails
    measure_fine : (m : Option ℕ) → measured x r ≡ m → r.running ≡ Some BringUp → Fine rows p.value (by_measure m x r)
    measure_fine None m e = failed_fine rows p.value x BringUp c e
    measure_fine (Some d) m e =
        fine_end rows p.value _ BringUp c e refl refl (λ d' e' l. let same : d ≡ d' = cc in subst (λ k. k + lo r.serial.value ≤ 35392) same (measured_fits d m))

    -- the running job ends
    ends_fine : (j : Option Job) → r.running ≡ j → GuardFits (guard_of s) → lasts n ≡ true → 53 * oldest ≤ n
        → Fine rows p.value (job_ends j (guard_of s) now x r)
    ends_fine None e fits l late = fine_same rows p.value c
    ends_fine (Some BringUp) e fits l late = measure_fine (measured x r) refl e
    ends_fine (Some Tell) e fits l late =
        cond_both (confirmed (guard_of s) x) _ _ (Fine rows p.value)
        (λ t. served_fine (fit_confirmed fits l late t)) (λ _. failed_fine rows p.value x Tell c e)
    ends_fine (Some Stop) e fits l late = fine_end rows p.value _ Stop c e refl refl (c.records p.value).delay
    ends_fine (Some Hold) e fits l late = fine_end rows p.value _ Hold c e refl refl (c.records p.value).delay
    ends_fine (Some Free) e fits l late = fine_end rows p.value _ Free c e refl refl (c.records p.value).delay

    -- an alarm ends service, or counts go on
    cause_fine : (m : Option Cause) (a : Alarms) (k : Counts) → serving r ≡ true → Fine rows p.value (by_cause m a (with_counts k r))
    cause_fine None a k v =
        record {
          same = (refl, refl);
          ok = record { delay = (c.records p.value).delay; calm = (c.records p.value).calm; void = (c.records p.value).void };
          fit = λ v o i h. c.service p.value o i v h;
        }
    cause_fine (Some y) a k v = fine_off rows p.value _ (serving_filled r.phase v) refl refl refl (c.records p.value).delay

    -- a record that counts
    counted_fine : (ploam : Bool) → serving r ≡ true → Fine rows p.value (counted (guard_of s) ploam x r)
    counted_fine ploam v = cause_fine _ _ _ v

  -- one record of the oldest frame out, of slot k from 0
  row_fine : (rows : List Row) (p : Place) (k now : ℕ) (x : Record) → GuardFits (guard_of s) → k < 53 → Kept rows → owner s oldest (suc k) ≡ Some p
      → TrueRecord bursts (53 * oldest + k) x → Fine rows p.value (row_after (guard_of s) now oldest (suc k) x (row rows p.value))
  row_fine rows p k now x fits few c own heard =
      let n : ℕ = 53 * oldest + k in
      let f : n / 53 ≡ oldest = omega arith in
      let e : n % 53 + 1 ≡ suc k = omega arith in
      let own' : whose s n ≡ Some p = ap₂ (owner s) f e ∙ own in
      cond_both (window oldest (suc k)) _ _ (Fine rows p.value)
      (λ _. cond_both (last oldest (suc k)) _ _ (Fine rows p.value)
      (λ l. ends_fine rows p n now x c own' heard _ refl fits (ap₂ last f e ∙ l) (omega arith)) (λ _. fine_same rows p.value c))
      (λ _. cond_both (counts oldest (row rows p.value)) _ _ (Fine rows p.value)
      (λ t. counted_fine rows p n now x c own' heard _ (and_parts _ _ t).0) (λ _. fine_same rows p.value c))

  -- m records from the k-th on, in order
  rows_core : (report : List ℕ) (now m k : ℕ) (rows : List Row) → GuardFits (guard_of s) → k + m ≤ 53 → TrueReport bursts oldest report → Kept rows
      → Kept (settled_rows s now oldest (suc k) (records_from report k m) rows)
  unfolding settled_rows records_from
  rows_core report now zero k rows fits few t c = c
  rows_core report now (suc m) k rows fits few t c =
      rows_core report now m (suc k) _ fits (omega arith) t
      (changed_core (owner s oldest (suc k)) _ rows c (λ p own. row_fine rows p k now _ fits (omega arith) c own (t k (omega arith))))

  -- the report of the oldest frame out
  pub settled_core : (rows : List Row) (now : ℕ) (report : List ℕ) → GuardFits (guard_of s) → Kept rows → TrueReport bursts oldest report
      → Kept (settled_rows s now oldest 1 (records_from report 0 53) rows)
  settled_core rows now report fits c true_ = rows_core report now 53 0 rows fits (omega arith) true_ c

-- nobody is in service after a record is held, released or entered, if nobody was
pub none_serving : (rows : List Row) (p : ℕ) (r : Row) → serving r ≡ false → ((q : ℕ) → serving (row rows q) ≡ false)
    → (q : ℕ) → serving (row (slice_set rows p r) q) ≡ false
none_serving rows p r e all q = at_set (λ _ x. serving x ≡ false) rows p r e all q

-- no call changes the number of records
pub changed-length : (p : Option Place) (f : Row → Row) (rows : List Row) → length (changed_if p f rows) ≡ length rows
changed-length None f rows = refl
changed-length (Some p) f rows = length-set rows p.value (f (row rows p.value))

pub begun-length : (F : ℕ) (rows : List Row) → length (begun_rows F rows) ≡ length rows
begun-length F rows = changed-length (starting F) begun rows

pub settled-length : (s : Settings) (now F X : ℕ) (xs : List Record) (rows : List Row) → length (settled_rows s now F X xs rows) ≡ length rows
unfolding settled_rows
settled-length s now F X [] rows = refl
settled-length s now F X (x ∷ xs) rows =
    settled-length s now F (suc X) xs (settled_one s now F X x rows) ∙ changed-length (owner s F X) (row_after s.guard.value now F X x) rows
