-- Frames that grant nothing to anybody.
use Rattle.std.proofs.Common.{◌≡◌, ℕ, zero, suc, ◌+◌, ◌%◌, Bool, true, false, cond, List, [], ◌∷◌, ◌++◌, replicate, Some, None, Option, refl, sym, ap, ◌∙◌, arith}
use Rattle.std.proofs.lemmas.Bool.{and_parts, eqb-true}
use Rattle.std.proofs.lemmas.List.{set-get_or}
use Rattle.std.specs.Prelude.{◌==◌}
use Rattle.field.proofs.Codes.{grant_again}
use Rattle.field.specs.declared.grant.Grant.TheVariants.{Unassigned}
use Rattle.field.specs.declared.octets.Octets.{Octets}
use Rattle.onu.specs.Answer.{kind_for}
use Rattle.onu.specs.declared.state.Onu.{Onu}
use Rattle.plant.specs.Lawful.{answer_to, answers}
use Rattle.report.specs.declared.record.Record.{Record}
use Rattle.head.specs.Table.{row_at, changed_if, place_grant, grant_in, codes_from, settled_rows}
use Rattle.rules.specs.Grant.{slot_grant}
use Rattle.rules.specs.Row.{serving}
use Rattle.rules.specs.Schedule.{Place, window, last, window_place, turn_place, calendar_place, owner}
use Rattle.rules.specs.Settle.{row_after}
use Rattle.rules.specs.declared.row.Row.{Row}
use Rattle.rules.specs.declared.settings.Settings.{Settings}

-- nobody is in service, and no job ends with frame F
pub record Calm (F : ℕ) (rows : List Row) : Type 0 where
  pub idle : (p : Place) → serving (row_at rows p) ≡ false
  pub spare : F % 16 ≡ 15 → (row_at rows (window_place F)).running ≡ None

-- the last slot of a window is in its second frame
last_frame : (F X : ℕ) → last F X ≡ true → F % 16 ≡ 15
last_frame F X e = eqb-true (F % 16) 15 (and_parts _ _ e).0

-- the last slot of a window is in it
last_window : (F X : ℕ) → last F X ≡ true → window F X ≡ true
last_window F X e =
    let a : F % 16 ≡ 15 = last_frame F X e in
    let b : X ≡ 53 = eqb-true X 53 (and_parts _ _ e).1 in
    rw (a, b)

-- the slots of a window are its place's
owned : (s : Settings) (F X : ℕ) → window F X ≡ true → owner s F X ≡ Some (window_place F)
owned s F X e = rw e

-- outside its window a place out of service is granted nothing
outside_grant : (F X : ℕ) (p : Place) (r : Row) → window F X ≡ false → serving r ≡ false → slot_grant F X p r ≡ Unassigned
outside_grant F X p r e f = rw (e, f)

-- a slot of a window is granted only at its end, while a job runs
window_grant : (F X : ℕ) (p : Place) (r : Row) → window F X ≡ true → (last F X ≡ true → r.running ≡ None) → slot_grant F X p r ≡ Unassigned
window_grant F X p r e f = go (last F X) refl
  where
    go : (b : Bool) → last F X ≡ b → slot_grant F X p r ≡ Unassigned
    go true g = let k : r.running ≡ None = f g in rw (e, g, k)
    go false g = rw (e, g)

-- whoever has it
elsewhere_grant : (F X : ℕ) (rows : List Row) (o : Option Place) → window F X ≡ false → ((p : Place) → serving (row_at rows p) ≡ false) → place_grant F X rows o ≡ Unassigned
elsewhere_grant F X rows None e f = refl
elsewhere_grant F X rows (Some p) e f = outside_grant F X p (row_at rows p) e (f p)

-- no slot is granted
silent_grant : (s : Settings) (rows : List Row) (F X : ℕ) → Calm F rows → grant_in s rows F X ≡ Unassigned
silent_grant s rows F X c = go (window F X) refl
  where
    go : (b : Bool) → window F X ≡ b → grant_in s rows F X ≡ Unassigned
    go true e = rw e (window_grant F X (window_place F) (row_at rows (window_place F)) e (λ l. c.spare (last_frame F X l)))
    go false e = rw e (elsewhere_grant F X rows (cond (X == 1) (Some (turn_place F)) (calendar_place s X)) e c.idle)

-- all codes are that of nobody
pub silent_codes : (s : Settings) (rows : List Row) (F X n : ℕ) → Calm F rows → codes_from s rows F X n ≡ replicate n 254
unfolding codes_from
silent_codes s rows F X zero c = refl
silent_codes s rows F X (suc n) c = rw (silent_grant s rows F X c, silent_codes s rows F (suc X) n c)

-- nobody answers that code
pub none_answer : (says : ℕ → Octets 12) (o : Onu) (n k : ℕ) (rest : List ℕ) → answers says o n (replicate k 254 ++ rest) ≡ answers says o (n + k) rest
unfolding answers
none_answer says o n zero rest = ap (λ m. answers says o m rest) (omega arith)
none_answer says o n (suc k) rest =
    ap (λ g. answer_to (kind_for g o) (says n) o n ++ answers says o (suc n) (replicate k 254 ++ rest)) (grant_again Unassigned)
    ∙ none_answer says o (suc n) k rest ∙ ap (λ m. answers says o m rest) (omega arith)

-- Settled with any records.

-- a record out of service and without a job that ends stays
calm_after : (guard now F X : ℕ) (x : Record) (r : Row) → serving r ≡ false → (last F X ≡ true → r.running ≡ None) → row_after guard now F X x r ≡ r
calm_after guard now F X x r e f = go (window F X) (last F X) refl refl
  where
    go : (b c : Bool) → window F X ≡ b → last F X ≡ c → row_after guard now F X x r ≡ r
    go true true g h = let k : r.running ≡ None = f h in rw (g, h, k)
    go true false g h = rw (g, h)
    go false c g h = rw (g, e)

-- nor is another record touched
kept_one : (guard now F X : ℕ) (x : Record) (rows : List Row) (o : Option Place)
    → ((p : Place) → o ≡ Some p → row_after guard now F X x (row_at rows p) ≡ row_at rows p)
    → changed_if o (row_after guard now F X x) rows ≡ rows
kept_one guard now F X x rows None f = refl
kept_one guard now F X x rows (Some p) f = rw (f p refl) (set-get_or rows p.value _)

-- no record of such a frame changes anything
pub silent_settled : (s : Settings) (now F X : ℕ) (xs : List Record) (rows : List Row) → Calm F rows → settled_rows s now F X xs rows ≡ rows
unfolding settled_rows
silent_settled s now F X [] rows c = refl
silent_settled s now F X (x ∷ xs) rows c =
    ap (settled_rows s now F (suc X) xs) (kept_one s.guard.value now F X x rows (owner s F X) (λ p e. calm_after s.guard.value now F X x (row_at rows p) (c.idle p) (ends p e)))
    ∙ silent_settled s now F (suc X) xs rows c
  where
    ends : (p : Place) → owner s F X ≡ Some p → last F X ≡ true → (row_at rows p).running ≡ None
    ends p e l =
        let w : window F X ≡ true = last_window F X l in
        let k : Some (window_place F) ≡ Some p = sym (owned s F X w) ∙ e in
        let same : window_place F ≡ p = cc in
        ap (λ (y : Place). (row_at rows y).running) (sym same) ∙ c.spare (last_frame F X l)
