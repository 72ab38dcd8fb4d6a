-- What holds of single records of a table and of a report.
use Rattle.std.proofs.Common.{◌≡◌, ℕ, zero, suc, ◌+◌, ◌≤◌, Bool, true, false, not, cond, List, [], ◌∷◌, length, Some, None, Option, refl, sym, ap, subst, ⊎_elim, arith, get_or-set_same, get_or-set_other}
use Rattle.std.proofs.lemmas.Bool.{both_ways, or_left, or_right, cases_lt, cases_eq}
use Rattle.std.proofs.lemmas.Bool.Decides.{nat_tests}
use Rattle.std.proofs.lemmas.List.{set_past}
use Rattle.std.proofs.lemmas.Option.{none-some}
use Rattle.std.specs.Prelude.{slice_set}
use Rattle.onu.specs.declared.state.Onu.{Onu}
use Rattle.plant.specs.declared.burst.Burst.{Burst}
use Rattle.report.specs.Offset.{offset_between}
use Rattle.report.specs.declared.offset.Offset.{Offset}
use Rattle.report.specs.declared.offset.Offset.TheVariants.{Early, Late}
use Rattle.report.specs.declared.record.Record.{Record}
use Rattle.rules.specs.Alarm.{distance}
use Rattle.rules.specs.Job.{lit, is_ploam, wanted}
use Rattle.rules.specs.Row.{Serial, blank, filled, is_empty, in_service, bears}
use Rattle.rules.specs.declared.row.Phase.{Phase}
use Rattle.rules.specs.declared.row.Phase.TheVariants.{Empty, Held as HeldPhase, Waiting, InService}
use Rattle.rules.specs.declared.row.Row.{Row}
use Rattle.rules.specs.declared.settings.Settings.{Settings}
use Rattle.head.specs.Table.{borne}
use Rattle.line.specs.Run.{TrueRecord, Brought}
use Rattle.line.proofs.Invariant.{row, Among, Home, Good, Sound}
use Rattle.line.proofs.Bursts.{contains_among}

-- what holds of each record of a table with one record changed
pub at_set : (P : ℕ → Row → Type 0) (rows : List Row) (p : ℕ) (r : Row) → P p r → ((q : ℕ) → P q (row rows q))
    → (q : ℕ) → P q (row (slice_set rows p r) q)
at_set P rows p r new others q =
    ⊎_elim
    (λ e. ⊎_elim
    (λ lt. subst (λ n. P n (row (slice_set rows p r) n)) (sym e) (subst (P p) (sym (get_or-set_same rows p r blank lt)) new))
    (λ past. subst (λ l. P q (row l q)) (sym (set_past rows p r past)) (others q))
    (cases_lt p (length rows)))
    (λ ne. subst (P q) (sym (get_or-set_other rows p q r blank ne)) (others q))
    (cases_eq q p)

-- filled as before, with the serial number of before
abbrev pub Same : Row → Row → Type 0
Same r r' = (filled r' ≡ filled r) × (r'.serial.value ≡ r.serial.value)

-- filled places stay filled, with their serial numbers
abbrev pub Later : List Row → List Row → Type 0
Later rows rows' = (q n : ℕ) → Home rows q n → Home rows' q n

-- what an ONU knows of its place, and what a burst tells of it, stays in a later table
pub good_later : (lo : ℕ → ℕ) (rows rows' : List Row) (o : Onu) → Later rows rows' → Good lo rows o → Good lo rows' o
good_later lo rows rows' o l g =
    record { pre = g.pre; low = g.low; high = g.high; id = λ q e. l q.value o.serial.value (g.id q e); grant = g.grant; ploam = g.ploam; mute = g.mute }

pub sound_later : (lo : ℕ → ℕ) (s : Settings) (rows rows' : List Row) (n : ℕ) (b : Burst) → Later rows rows' → Sound lo s rows n b → Sound lo s rows' n b
sound_later lo s rows rows' n b l k =
    record { before = k.before; place = k.place; owned = k.owned; home = l k.place.value b.serial.value k.home; low = k.low; kind = k.kind }

-- an ONU in service is at a filled place
pub serving_filled : (p : Phase) → in_service p ≡ true → not (is_empty p) ≡ true
serving_filled Empty e = e
serving_filled HeldPhase e = refl
serving_filled Waiting e = refl
serving_filled InService e = refl

-- a place that is lit is filled if it was
pub lit_filled : (p : Phase) → not (is_empty (lit p)) ≡ not (is_empty p)
lit_filled Empty = refl
lit_filled HeldPhase = refl
lit_filled Waiting = refl
lit_filled InService = refl

-- so much delay is wanted as the burst was early
pub wanted_early : (o : Offset) (start due d : ℕ) → offset_between start due ≡ Some o → wanted o ≡ Some d → start + d ≡ due
wanted_early (Early n) start due d e w = grind (arith, nat_tests)
wanted_early (Late n) start due d e w = grind (arith, nat_tests)

-- a burst is no further from its target than its offset tells
pub near : (o : Offset) (start due g : ℕ) → offset_between start due ≡ Some o → distance o ≤ g → (due ≤ start + g) × (start ≤ due + g)
near (Early n) start due g e l = (grind (arith, nat_tests), grind (arith, nat_tests))
near (Late n) start due g e l = (grind (arith, nat_tests), grind (arith, nat_tests))

-- a PLOAM cell came from a burst that was heard
pub lit_burst : (bursts : List Burst) (n : ℕ) (x : Record) → TrueRecord bursts n x → is_ploam x.light ≡ true → (b : Burst) × Among b bursts × Brought n x b
lit_burst bursts n x t e =
    ⊎_elim (λ d. absurd (both_ways _ (ap is_ploam d) e))
    (⊎_elim (λ d. absurd (both_ways _ (ap is_ploam d) e)) (λ w. (w.0, contains_among bursts w.0 w.1, w.2))) t

-- what there is after a test that lets it through
pub cond_some_of : {A : Type 0} (t : Bool) (m : Option A) (x : A) → cond t m None ≡ Some x → (t ≡ true) × (m ≡ Some x)
cond_some_of true m x e = (refl, e)
cond_some_of false m x e = absurd (none-some x e)

-- a serial number that a record bears is borne by the table
pub borne_at : (n : Serial) (rows : List Row) (i : ℕ) → bears n (row rows i) ≡ true → borne n rows ≡ true
borne_at n [] i e = e
borne_at n (r ∷ rows) zero e = or_left _ _ e
borne_at n (r ∷ rows) (suc i) e = or_right _ _ (borne_at n rows i e)
