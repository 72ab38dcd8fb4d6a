-- The table of a head with somebody at place 0 alone.
use Rattle.std.proofs.Common.{◌≡◌, ◌≢◌, ℕ, zero, suc, ◌+◌, ◌*◌, ◌/◌, ◌%◌, Bool, true, false, not, cond, ◌||◌, List, ◌∷◌, get_or, set, replicate, Some, None, Option, refl, sym, ap, ◌∙◌, subst, arith}
use Rattle.std.proofs.lemmas.Bool.{and_parts, eq-eqb, ne_eqb, cases_eq}
use Rattle.std.proofs.Math.Logic.{⊎_elim}
use Rattle.std.specs.Prelude.{◌==◌, is_some}
use Rattle.message.specs.declared.downstream.Downstream.{Downstream}
use Rattle.message.specs.declared.downstream.Downstream.TheVariants.{NoMessage}
use Rattle.head.specs.Table.{row_at, changed, begun_rows, message_in}
use Rattle.line.proofs.Quiet.{calm_says}
use Rattle.rules.proofs.Clamps.{place-value, place_same}
use Rattle.rules.specs.Job.{measured_told, running_message, begun, says}
use Rattle.rules.specs.Row.{blank, serving}
use Rattle.rules.specs.Schedule.{Place, place_of, window_place, message_place, turn}
use Rattle.rules.specs.Settings.{first_settings}
use Rattle.rules.specs.declared.job.Job.{Job}
use Rattle.rules.specs.declared.job.Job.TheVariants.{BringUp, Tell, Stop, Hold, Free}
use Rattle.rules.specs.declared.row.Row.{Row}
use Rattle.history.proofs.Silent.{Calm}
use Rattle.history.proofs.Stages.{place_0, row_in, running_said, said, spare}

-- its 64 records
abbrev pub rows_of : Row → List Row
rows_of r = r ∷ replicate 63 blank

-- blank records stay blank
blank_at : (n k : ℕ) → get_or (replicate n blank) k blank ≡ blank
blank_at zero k = refl
blank_at (suc n) zero = refl
blank_at (suc n) (suc k) = blank_at n k

-- also where a blank one is written
blank_set : (n k : ℕ) → set (replicate n blank) k blank ≡ replicate n blank
blank_set zero k = refl
blank_set (suc n) zero = refl
blank_set (suc n) (suc k) = ap (λ (l : List Row). blank ∷ l) (blank_set n k)

-- the records by their place's number
at_first : (r : Row) (n : ℕ) → n ≡ 0 → get_or (rows_of r) n blank ≡ r
at_first r n e = rw e

-- every other record is blank
at_other : (r : Row) (n : ℕ) → n ≢ 0 → get_or (rows_of r) n blank ≡ blank
at_other r zero e = absurd (e refl)
at_other r (suc n) e = blank_at 63 n

-- what holds of the record and of a blank one holds of each
pub each_row : (P : Row → Type 0) (r : Row) (p : Place) → P r → P blank → P (row_at (rows_of r) p)
each_row P r p a b =
    ⊎_elim (λ e. subst P (sym (at_first r p.value e)) a) (λ e. subst P (sym (at_other r p.value e)) b) (cases_eq p.value 0)

-- a blank record written elsewhere changes nothing
set_other : (r : Row) (n : ℕ) → n ≢ 0 → set (rows_of r) n blank ≡ rows_of r
set_other r zero e = absurd (e refl)
set_other r (suc n) e = ap (λ (l : List Row). r ∷ l) (blank_set 63 n)

-- a blank record stays so when its round starts
begun_blank : begun blank ≡ blank
begun_blank = refl

-- when the round of p starts
begun_one : (r : Row) (p : Place) → changed p begun (rows_of r) ≡ cond (p.value == 0) (rows_of (begun r)) (rows_of r)
begun_one r p = ⊎_elim
    (λ (e : p.value ≡ 0). rw e)
    (λ (e : p.value ≢ 0). rw (ne_eqb p.value 0 e, at_other r p.value e, begun_blank) (set_other r p.value e))
    (cases_eq p.value 0)

-- when a frame starts, whichever place's round does
pub begun_table : (F : ℕ) (r : Row) → begun_rows F (rows_of r) ≡ rows_of (row_in F r)
begun_table F r = ⊎_elim
    (λ (e : F % 1024 ≡ 23).
    let a : F % 16 ≡ 7 = omega arith in
    let b : (place_of (F / 16 + 63)).value ≡ 0 = omega (arith, place-value (F / 16 + 63)) in
    rw (eq-eqb (F % 1024) 23 e, a) (begun_one r (place_of (F / 16 + 63)) ∙ rw b))
    (λ (e : F % 1024 ≢ 23). rw (ne_eqb (F % 1024) 23 e) (⊎_elim
    (λ (a : F % 16 ≡ 7).
    let b : (place_of (F / 16 + 63)).value ≢ 0 = omega (arith, place-value (F / 16 + 63)) in
    rw a (begun_one r (place_of (F / 16 + 63)) ∙ rw (ne_eqb (place_of (F / 16 + 63)).value 0 b)))
    (λ (a : F % 16 ≢ 7). rw (ne_eqb (F % 16) 7 a))
    (cases_eq (F % 16) 7)))
    (cases_eq (F % 1024) 23)

-- what place 0 says
said_is : (x : Downstream) (r : Row) (j : Option Job) (k : ℕ) → measured_told place_0 r.delay ≡ x → running_message first_settings place_0 r j k ≡ running_said x r j k
said_is x r None k e = refl
said_is x r (Some BringUp) k e = refl
said_is x r (Some Tell) k e = ap (λ m. cond (k == 0) m NoMessage) e
said_is x r (Some Stop) k e = refl
said_is x r (Some Hold) k e = refl
said_is x r (Some Free) k e = refl

-- another place says nothing
other_says : (r : Row) (F j : ℕ) → (message_place F j).value ≢ 0 → message_in first_settings (rows_of r) F j ≡ NoMessage
other_says r F j e = calm_says first_settings F (message_place F j) (row_at (rows_of r) (message_place F j)) (ap (λ (y : Row). y.running) (at_other r (message_place F j).value e))

-- the message of the first cell
pub first_said : (x : Downstream) (r : Row) (F : ℕ) → measured_told place_0 r.delay ≡ x → message_in first_settings (rows_of r) F 0 ≡ said x F r
first_said x r F e = ⊎_elim
    (λ (a : F % 32 ≡ 0).
    let p : message_place F 0 ≡ place_0 = place_same (2 * F + 0) 0 (omega arith) in
    rw (eq-eqb (F % 32) 0 a)
    (ap (λ (p : Place). says first_settings F p (row_at (rows_of r) p)) p
    ∙ ap (λ (y : Row). says first_settings F place_0 y) (at_first r place_0.value (place-value 0))
    ∙ said_is x r r.running (turn F place_0.value / 3) e))
    (λ (a : F % 32 ≢ 0).
    let b : (message_place F 0).value ≢ 0 = omega (arith, place-value (2 * F + 0)) in
    rw (ne_eqb (F % 32) 0 a) (other_says r F 0 b))
    (cases_eq (F % 32) 0)

-- the second cell has none: place 0 has its turns in first cells
pub second_said : (r : Row) (F : ℕ) → message_in first_settings (rows_of r) F 1 ≡ NoMessage
second_said r F = other_says r F 1 (omega (arith, place-value (2 * F + 1)))

-- a test that fails
not_some : {A : Type 0} (o : Option A) → not (is_some o) ≡ true → o ≡ None
not_some None e = refl
not_some (Some x) e = absurd cc

-- and one more
not_false : (b : Bool) → not b ≡ true → b ≡ false
not_false true e = absurd cc
not_false false e = refl

-- a spare frame is calm
pub spare_calm : (F : ℕ) (r : Row) → spare F r ≡ true → Calm F (rows_of r)
spare_calm F r e =
    let a = and_parts (not (serving r)) (not (F % 1024 == 15) || not (is_some r.running)) e in
    record {
      idle = λ p. each_row (λ (y : Row). serving y ≡ false) r p (not_false (serving r) a.0) refl;
      spare = λ f. ⊎_elim
          (λ (v : (window_place F).value ≡ 0).
          let w : F % 1024 ≡ 15 = omega (arith, place-value (F / 16)) in
          let k : not (is_some r.running) ≡ true = rw (eq-eqb (F % 1024) 15 w) at a.1 in
          ap (λ (y : Row). y.running) (at_first r (window_place F).value v) ∙ not_some r.running k)
          (λ (v : (window_place F).value ≢ 0). ap (λ (y : Row). y.running) (at_other r (window_place F).value v))
          (cases_eq (window_place F).value 0);
    }
