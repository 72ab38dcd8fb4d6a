-- Stages that runs come to.
use Rattle.std.proofs.Common.{◌≡◌, ℕ, zero, suc, ◌+◌, ◌*◌, ◌%◌, ◌<◌, ◌≤◌, ◌^◌, Bool, true, false, cond, List, [], ◌∷◌, ◌++◌, replicate, Some, None, Option, refl, ap, ◌∙◌, subst, arith}
use Rattle.std.proofs.Math.Logic.{⊎_elim}
use Rattle.std.specs.List.{between}
use Rattle.std.specs.Prelude.{◌&&◌, ◌==◌, nat_le}
use Rattle.field.proofs.Codes.{grant_again}
use Rattle.field.specs.declared.grant.Grant.TheVariants.{Idle}
use Rattle.field.specs.declared.octets.Octets.{Octets}
use Rattle.field.specs.declared.number.Number.{Number}
use Rattle.message.specs.declared.downstream.Downstream.{Downstream}
use Rattle.message.specs.declared.downstream.Downstream.TheVariants.{NoMessage}
use Rattle.onu.specs.Answer.{kind_for}
use Rattle.onu.specs.Onu.{happened, inside, restarted, moved}
use Rattle.onu.specs.declared.event.OwnEvent.{OwnEvent}
use Rattle.onu.specs.declared.event.OwnEvent.TheVariants.{SignalLoss, SignalReturn, PowerSetUp, FirstTimer, SecondTimer, PowerLoss}
use Rattle.onu.specs.declared.state.Onu.{Onu}
use Rattle.onu.specs.declared.state.State.TheVariants.{O1, O10}
use Rattle.plant.specs.Lawful.{own, by_moves, answer_to, answers, steady}
use Rattle.plant.specs.declared.burst.Burst.{Burst}
use Rattle.bench.specs.Bench.{woken, quiet, BenchDoes}
use Rattle.bench.specs.declared.machine.Machine.{Machine}
use Rattle.head.specs.Steps.{sent, settled}
use Rattle.head.specs.Table.{codes_from, message_in, begun_rows, settled_rows, records_from}
use Rattle.head.specs.declared.head.Head.{Head}
use Rattle.line.proofs.Acts.{obeyed_rigid}
use Rattle.line.proofs.Bursts.{among_one, among_none}
use Rattle.line.proofs.Invariant.{Among}
use Rattle.line.specs.Run.{HeardCell, all_bursts, Run}
use Rattle.rules.specs.Job.{measured_told, begun}
use Rattle.rules.specs.Settings.{first_settings}
use Rattle.rules.specs.declared.row.Row.{Row}
use Rattle.history.specs.History.{means}
use Rattle.history.proofs.Reports.{dark, report_of, report-length, dark_true}
use Rattle.history.proofs.Silent.{Calm, silent_codes, none_answer, silent_settled}
use Rattle.history.proofs.Stages.{Stage, place_0, row_in, said, after_message, spare, passed, after}
use Rattle.history.proofs.Steps.{answered, cell, codes_in, message_of, sent_run, settled_run}
use Rattle.history.proofs.Table.{rows_of, begun_table, first_said, second_said, spare_calm}

-- The round trip stays.

-- either way
cond_trip : (b : Bool) (x y o : Onu) → x.trip ≡ o.trip → y.trip ≡ o.trip → (cond b x y).trip ≡ o.trip
cond_trip true x y o e f = e
cond_trip false x y o e f = f

-- whatever happens to the ONU
happened_trip : (e : OwnEvent) (o : Onu) → (happened e o).trip ≡ o.trip
happened_trip PowerSetUp o = cond_trip _ _ _ o refl refl
happened_trip SecondTimer o = cond_trip _ _ _ o refl refl
happened_trip FirstTimer o = cond_trip _ _ _ o refl refl
happened_trip SignalLoss o = cond_trip (inside 2 7 o) (restarted O1 o) (cond (inside 8 8 o) (moved O10 o) o) o refl (cond_trip (inside 8 8 o) (moved O10 o) o o refl refl)
happened_trip SignalReturn o = cond_trip _ _ _ o refl refl
happened_trip PowerLoss o = cond_trip _ _ _ o refl refl

-- by any event that is due
due_trip : (a b c d : Bool) (o : Onu)
    → (by_moves (cond a (own SignalReturn ∷ []) (cond b (own FirstTimer ∷ []) (cond c (own SecondTimer ∷ []) (cond d (own PowerSetUp ∷ []) [])))) o).trip ≡ o.trip
due_trip true b c d o = happened_trip SignalReturn o
due_trip false true c d o = happened_trip FirstTimer o
due_trip false false true d o = happened_trip SecondTimer o
due_trip false false false true o = happened_trip PowerSetUp o
due_trip false false false false o = refl

-- before a cell
woken_trip : (q : Machine) → (woken q).trip ≡ q.onu.trip
unfolding woken
woken_trip q = due_trip q.fresh (inside 5 7 q.onu && nat_le 131072 q.ranging) (inside 10 10 q.onu && nat_le 1310 q.popup) (inside 3 4 q.onu) q.onu

-- after a cell
pub message_trip : (m : Downstream) (q : Machine) → (after_message m q).onu.trip ≡ q.onu.trip
message_trip m q = (obeyed_rigid m (woken q)).1 ∙ woken_trip q

-- Nobody answers a frame of nobody's codes.

-- in the first cell
first_none : (q : Machine) (n : ℕ) → answered q n (between 0 27 (replicate 53 254)) ≡ []
unfolding answers
first_none q n = none_answer (steady (quiet (woken q))) (woken q) n 27 []

-- the idle code after the 53
idle_none : (says : ℕ → Octets 12) (o : Onu) (n : ℕ) → answers says o n (255 ∷ []) ≡ []
unfolding answers
idle_none says o n = ap (λ g. answer_to (kind_for g o) (says n) o n ++ []) (grant_again Idle)

-- in the second cell
second_none : (q : Machine) (n : ℕ) → answered q n (between 27 53 (replicate 53 254) ++ 255 ∷ []) ≡ []
second_none q n = none_answer (steady (quiet (woken q))) (woken q) n 26 (255 ∷ []) ∙ idle_none (steady (quiet (woken q))) (woken q) (n + 26)

-- no docket is out
abbrev pub head_of : Stage → Head
head_of s = record { table = record { rows = rows_of s.row }; settings = first_settings; frame = s.frame; out = 0; started = true }

-- every ONU that was heard was 20,000 bits away
abbrev pub Far : List HeardCell → Type 0
Far cells = (c : HeardCell) → Among c cells → (o : Onu) → Among o c.onus → o.trip.value ≡ 20000

-- one cell more
pub far_more : (h : Head) (q : Machine) (bs : List Burst) (cells : List HeardCell) → q.onu.trip.value ≡ 20000 → Far cells → Far (cell h q bs ∷ cells)
far_more h q bs cells e f c m o k =
    ⊎_elim
    (λ (s : c ≡ cell h q bs).
    let k : Among o (q.onu ∷ []) = subst (λ (d : HeardCell). Among o d.onus) s k in
    ⊎_elim (λ (t : o ≡ q.onu). ap (λ (x : Onu). x.trip.value) t ∙ e) (λ n. absurd (among_none n)) (among_one k))
    (λ n. f c n o k)
    (among_one m)

-- a run has come to the stage, with these bursts
pub record Came (s : Stage) (bs : List Burst) : Type 0 where
  pub cells : List HeardCell
  pub run : Run means BenchDoes (head_of s) s.machine cells
  pub heard : all_bursts cells ≡ bs
  pub trip : s.machine.onu.trip.value ≡ 20000
  pub far : Far cells

-- the delay stays
delay_in : (F : ℕ) (r : Row) → (row_in F r).delay ≡ r.delay
delay_in F r = go (F % 1024 == 23)
  where
    go : (b : Bool) → (cond b (begun r) r).delay ≡ r.delay
    go true = refl
    go false = refl

-- one round trip in bits
pub value_trip : (o o' : Onu) → o.trip ≡ o'.trip → o'.trip.value ≡ 20000 → o.trip.value ≡ 20000
value_trip o o' e f = ap (λ (t : Number 1000000). t.value) e ∙ f

-- what a frame grants and says and how it settles, by the records once its round is begun
module _ (s : Stage) (rows : List Row) (begins : begun_rows s.frame (rows_of s.row) ≡ rows) where
  pub codes_are : (gs : List ℕ) → codes_from first_settings rows s.frame 1 53 ≡ gs → codes_in (head_of s) ≡ gs
  codes_are gs e = ap (λ (l : List Row). codes_from first_settings l s.frame 1 53) begins ∙ e

  pub message_is : (j : ℕ) (m : Downstream) → message_in first_settings rows s.frame j ≡ m → message_of (head_of s) j ≡ m
  message_is j m e = ap (λ (l : List Row). message_in first_settings l s.frame j) begins ∙ e

  pub settled_is : (report : List ℕ) (r : Row) (q : Machine)
      → settled_rows first_settings (s.frame + 1) s.frame 1 (records_from report 0 53) rows ≡ rows_of r
      → settled (sent (head_of s)) s.frame report ≡ head_of (record { frame = s.frame + 1; row = r; machine = q })
  settled_is report r q e =
      ap (λ (l : List Row). record { table = record { rows = l }; settings = first_settings; frame = s.frame + 1; out = 0; started = true })
      (ap (settled_rows first_settings (s.frame + 1) s.frame 1 (records_from report 0 53)) begins ∙ e)

-- a spare frame is sent and settled
pass_came : (x : Downstream) (s : Stage) (bs : List Burst) → s.frame < 2 ^ 48 → measured_told place_0 s.row.delay ≡ x
    → spare s.frame (row_in s.frame s.row) ≡ true → Came s bs → Came (passed x s) bs
pass_came x s bs soon tells e c =
    let F : ℕ = s.frame in
    let q : Machine = s.machine in
    let r : Row = row_in F s.row in
    let begins : begun_rows F (rows_of s.row) ≡ rows_of r = begun_table F s.row in
    let calm : Calm F (rows_of r) = spare_calm F r e in
    let m : Downstream = said x F r in
    let q₁ : Machine = after_message m q in
    let q₂ : Machine = after_message NoMessage q₁ in
    let t₁ : q₁.onu.trip.value ≡ 20000 = value_trip q₁.onu q.onu (message_trip m q) c.trip in
    let t₂ : q₂.onu.trip.value ≡ 20000 = value_trip q₂.onu q₁.onu (message_trip NoMessage q₁) t₁ in
    let b₁ : List Burst = answered q (53 * F) (between 0 27 (replicate 53 254)) in
    let b₂ : List Burst = answered q₁ (53 * F + 27) (between 27 53 (replicate 53 254) ++ 255 ∷ []) in
    let heard : List HeardCell = cell (head_of s) q₂ b₂ ∷ cell (head_of s) q₁ b₁ ∷ c.cells in
    let sends : Run means BenchDoes (sent (head_of s)) q₂ heard = sent_run (head_of s) q c.cells (replicate 53 254) m NoMessage (omega arith) soon
    (codes_are s (rows_of r) begins (replicate 53 254) (silent_codes first_settings (rows_of r) F 1 53 calm))
    (message_is s (rows_of r) begins 0 m (first_said x r F (ap (measured_told place_0) (delay_in F s.row) ∙ tells)))
    (message_is s (rows_of r) begins 1 NoMessage (second_said r F)) c.run in
    let settles = settled_run (sent (head_of s)) q₂ heard F (report_of dark) (omega arith) refl (report-length dark) (dark_true (all_bursts heard) F) sends in
    record {
      cells = heard;
      run = subst (λ k. Run means BenchDoes k q₂ heard)
          (settled_is s (rows_of r) begins (report_of dark) r q₂ (silent_settled first_settings (F + 1) F 1 (records_from (report_of dark) 0 53) (rows_of r) calm))
          settles;
      heard = ap (λ l. l ++ (b₁ ++ all_bursts c.cells)) (second_none q₁ (53 * F + 27)) ∙ ap (λ l. l ++ all_bursts c.cells) (first_none q (53 * F)) ∙ c.heard;
      trip = t₂;
      far = far_more (head_of s) q₂ b₂ (cell (head_of s) q₁ b₁ ∷ c.cells) t₂ (far_more (head_of s) q₁ b₁ c.cells t₁ c.far);
    }

-- a stage comes only of spare frames
if_spare : (b : Bool) (o : Option Stage) (t : Stage) → elim b [ true ↦ o | false ↦ None ] ≡ Some t → (b ≡ true) × (o ≡ Some t)
if_spare true o t e = (refl, e)
if_spare false o t e = absurd cc

-- so are n of them
pub after_came : (x : Downstream) (n : ℕ) (s t : Stage) (bs : List Burst) → s.frame + n ≤ 2 ^ 48 → measured_told place_0 s.row.delay ≡ x
    → after x n s ≡ Some t → Came s bs → Came t bs
unfolding after
after_came x zero s t bs l tells e c = let k : s ≡ t = cc in subst (λ (y : Stage). Came y bs) k c
after_came x (suc n) s t bs l tells e c =
    let k = if_spare (spare s.frame (row_in s.frame s.row)) (after x n (passed x s)) t e in
    after_came x n (passed x s) t bs (omega arith) (ap (measured_told place_0) (delay_in s.frame s.row) ∙ tells) k.1
    (pass_came x s bs (omega arith) tells k.0 c)
