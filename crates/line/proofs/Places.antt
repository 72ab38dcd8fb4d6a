-- What held of each record, and what holds once one is written; who is filled.
use Rattle.std.proofs.Common.{◌≡◌, ◌≢◌, ℕ, zero, suc, ◌+◌, ◌<◌, ◌≤◌, true, false, List, length, Some, None, Option, ◌⊎◌, inl, inr, refl, sym, ap, ◌∙◌, subst, arith, get_or-set_same, get_or-set_other}
use Rattle.std.proofs.Math.Logic.{⊎_elim}
use Rattle.std.proofs.lemmas.Bool.{both_ways, and_from, cases_eq, eq-eqb}
use Rattle.std.proofs.lemmas.Option.{same_Some}
use Rattle.std.specs.Prelude.{slice_set}
use Rattle.report.specs.declared.record.Record.{Record}
use Rattle.rules.specs.Row.{Serial, blank, filled, entered}
use Rattle.rules.specs.Schedule.{Place, owner}
use Rattle.rules.specs.Settle.{row_after}
use Rattle.rules.specs.declared.row.Row.{Row}
use Rattle.rules.specs.declared.settings.Settings.{Settings}
use Rattle.head.specs.Table.{borne, changed_if, settled_rows, records_from}
use Rattle.line.proofs.Invariant.{row}
use Rattle.line.proofs.Rows.{Same, borne_at}
use Rattle.line.proofs.Tables.{changed-length}

pub set_all : (Q : ℕ → Row → Type 0) (rows : List Row) (p : ℕ) (r : Row) → p < length rows → Q p r → ((q : ℕ) → q ≢ p → Q q (row rows q))
    → (q : ℕ) → Q q (row (slice_set rows p r) q)
set_all Q rows p r few new others q =
    ⊎_elim
    (λ e. subst (λ n. Q n (row (slice_set rows p r) n)) (sym e) (subst (Q p) (sym (get_or-set_same rows p r blank few)) new))
    (λ ne. subst (Q q) (sym (get_or-set_other rows p q r blank ne)) (others q ne))
    (cases_eq q p)

-- the place, if there is one
abbrev pub Its : Option Place → ℕ → Type 0
Its m q = (p : Place) × (m ≡ Some p) × (q ≡ p.value)

pub changed_all : (P Q : ℕ → Row → Type 0) (m : Option Place) (f : Row → Row) (rows : List Row) → length rows ≡ 64
    → ((p : Place) → m ≡ Some p → P p.value (row rows p.value) → Q p.value (f (row rows p.value)))
    → ((q : ℕ) (r : Row) → (Its m q → ⊥) → P q r → Q q r)
    → ((q : ℕ) → P q (row rows q)) → (q : ℕ) → Q q (row (changed_if m f rows) q)
changed_all P Q None f rows full touch pass all q = pass q _ (λ i. absurd cc) (all q)
changed_all P Q (Some p) f rows full touch pass all q =
    let h : p.value ≤ 63 = p.high in
    set_all Q rows p.value _ (omega arith) (touch p refl (all p.value)) (λ k ne. pass k _ (λ i. ne (i.2 ∙ sym (ap (λ (o : Place). o.value) (same_Some p i.0 i.1)))) (all k)) q

-- Settling, record by record: P k holds before the record of slot k from 0
module _ (P : ℕ → ℕ → Row → Type 0) (s : Settings) (now F : ℕ)
    (touch : (k : ℕ) (p : Place) (x : Record) (r : Row) → k < 53 → owner s F (suc k) ≡ Some p → P k p.value r
    → P (suc k) p.value (row_after s.guard.value now F (suc k) x r))
    (pass : (k q : ℕ) (r : Row) → k < 53 → (Its (owner s F (suc k)) q → ⊥) → P k q r → P (suc k) q r) where
  pub settled_all : (report : List ℕ) (m k : ℕ) (rows : List Row) → k + m ≡ 53 → length rows ≡ 64 → ((q : ℕ) → P k q (row rows q))
      → (q : ℕ) → P 53 q (row (settled_rows s now F (suc k) (records_from report k m) rows) q)
  unfolding settled_rows records_from
  settled_all report zero k rows e full all q = let d : k ≡ 53 = omega arith in subst (λ n. P n q (row rows q)) d (all q)
  settled_all report (suc m) k rows e full all q =
      settled_all report m (suc k) _ (omega arith) (changed-length (owner s F (suc k)) _ rows ∙ full)
      (changed_all (P k) (P (suc k)) (owner s F (suc k)) _ rows full (λ p own. touch k p _ _ (omega arith) own) (λ n r. pass k n r (omega arith)) all) q

-- Filled places.
abbrev pub Sames : List Row → List Row → Type 0
Sames rows rows' = (q : ℕ) → Same (row rows q) (row rows' q)

abbrev pub Alone : List Row → Type 0
Alone rows = (p q : ℕ) → filled (row rows p) ≡ true → filled (row rows q) ≡ true → (row rows p).serial.value ≡ (row rows q).serial.value → p ≡ q

pub alone_same : (rows rows' : List Row) → Sames rows rows' → Alone rows → Alone rows'
alone_same rows rows' s a p q x y e = a p q (sym (s p).0 ∙ x) (sym (s q).0 ∙ y) (sym (s p).1 ∙ e ∙ (s q).1)

-- who is filled after an entry was entered, or was there
abbrev Was : List Row → ℕ → Serial → ℕ → Row → Type 0
Was rows p n q x =
    filled x ≡ true → ((q ≡ p) × (n.value ≡ x.serial.value)) ⊎ ((filled (row rows q) ≡ true) × ((row rows q).serial.value ≡ x.serial.value))

pub alone_entered : (rows : List Row) (p : ℕ) (n : Serial) → p < length rows → borne n rows ≡ false → Alone rows → Alone (slice_set rows p (entered n))
alone_entered rows p n few new a b c x y e =
    let was = set_all (Was rows p n) rows p (entered n) few (λ _. inl (refl, refl)) (λ q ne f. inr (f, refl)) in
    let lone : (q : ℕ) → filled (row rows q) ≡ true → n.value ≡ (row rows q).serial.value → ⊥ =
    λ q f v. both_ways _ new (borne_at n rows q (and_from _ _ f (eq-eqb _ _ v))) in
    ⊎_elim
    (λ u. ⊎_elim (λ v. u.0 ∙ sym v.0) (λ v. absurd (lone c v.0 (u.1 ∙ e ∙ sym v.1))) (was c y))
    (λ u. ⊎_elim (λ v. absurd (lone b u.0 (v.1 ∙ sym e ∙ sym u.1))) (λ v. a b c u.0 v.0 (u.1 ∙ e ∙ sym v.1)) (was c y))
    (was b x)
