-- A frame in which the slot at the end of place 0's window is granted and answered.
use Rattle.std.proofs.Common.{◌≡◌, ℕ, ◌+◌, ◌*◌, ◌<◌, ◌≤◌, ◌^◌, List, [], ◌∷◌, ◌++◌, replicate, refl, sym, ap, ◌∙◌, subst, inr, arith}
use Rattle.std.specs.List.{between, Contains}
use Rattle.message.specs.declared.downstream.Downstream.TheVariants.{NoMessage}
use Rattle.plant.specs.declared.burst.Burst.{Burst}
use Rattle.bench.specs.Bench.{BenchDoes}
use Rattle.bench.specs.declared.machine.Machine.{Machine}
use Rattle.head.specs.Steps.{sent, settled}
use Rattle.head.specs.Table.{codes_from, message_in, begun_rows, settled_rows, records_from}
use Rattle.line.specs.Run.{HeardCell, all_bursts, Brought, Run}
use Rattle.report.specs.Record.{Holds}
use Rattle.report.specs.declared.record.Record.{Record}
use Rattle.rules.specs.Settings.{first_settings}
use Rattle.history.specs.History.{means}
use Rattle.history.proofs.Chain.{head_of, Came, message_trip, value_trip, far_more, codes_are, message_is, settled_is}
use Rattle.history.proofs.Reports.{report_of, report-length, report_true}
use Rattle.history.proofs.Stages.{Stage, after_message}
use Rattle.history.proofs.Steps.{answered, cell, sent_run, settled_run}
use Rattle.history.proofs.Table.{rows_of}

-- X 53 is granted to place 0 as a PLOAM cell, and nothing else is
abbrev pub window_codes : List ℕ
window_codes = replicate 52 254 ++ 64 ∷ []

-- such a frame brings the burst b with the record x, and leads from one stage to the next
pub record Window (s t : Stage) (b : Burst) (x : Record) : Type 0 where
  pub begins : begun_rows s.frame (rows_of s.row) ≡ rows_of s.row
  pub codes : codes_from first_settings (rows_of s.row) s.frame 1 53 ≡ window_codes
  pub first_message : message_in first_settings (rows_of s.row) s.frame 0 ≡ NoMessage
  pub second_message : message_in first_settings (rows_of s.row) s.frame 1 ≡ NoMessage
  pub next : s.frame + 1 ≡ t.frame
  pub machine : after_message NoMessage (after_message NoMessage s.machine) ≡ t.machine
  pub first_bursts : answered s.machine (53 * s.frame) (between 0 27 window_codes) ≡ []
  pub second_bursts : answered (after_message NoMessage s.machine) (53 * s.frame + 27) (between 27 53 window_codes ++ 255 ∷ []) ≡ b ∷ []
  pub settles : settled_rows first_settings (s.frame + 1) s.frame 1 (records_from (report_of x) 0 53) (rows_of s.row) ≡ rows_of t.row
  pub brings : Brought (53 * s.frame + 52) x b
  pub parity : x.parity ≤ 8
  pub holds : Holds x.offset

-- the frame is sent, and then settled
pub record Opened (s t : Stage) (b : Burst) (bs : List Burst) (x : Record) : Type 0 where
  pub came : Came t (b ∷ bs)
  pub before : Run means BenchDoes (sent (head_of s)) t.machine came.cells
  pub last : settled (sent (head_of s)) s.frame (report_of x) ≡ head_of t

-- from a run to the stage before it
pub opened : (s t : Stage) (b : Burst) (bs : List Burst) (x : Record) → s.frame < 2 ^ 48 → Window s t b x → Came s bs → Opened s t b bs x
opened s t b bs x soon w c =
    let F : ℕ = s.frame in
    let q : Machine = s.machine in
    let q₁ : Machine = after_message NoMessage q in
    let q₂ : Machine = after_message NoMessage q₁ in
    let t₁ : q₁.onu.trip.value ≡ 20000 = value_trip q₁.onu q.onu (message_trip NoMessage q) c.trip in
    let t₂ : q₂.onu.trip.value ≡ 20000 = value_trip q₂.onu q₁.onu (message_trip NoMessage q₁) t₁ in
    let b₁ : List Burst = answered q (53 * F) (between 0 27 window_codes) in
    let b₂ : List Burst = answered q₁ (53 * F + 27) (between 27 53 window_codes ++ 255 ∷ []) in
    let heard : List HeardCell = cell (head_of s) q₂ b₂ ∷ cell (head_of s) q₁ b₁ ∷ c.cells in
    let all : all_bursts heard ≡ b ∷ bs =
    ap (λ l. l ++ (b₁ ++ all_bursts c.cells)) w.second_bursts ∙ ap (λ l. b ∷ (l ++ all_bursts c.cells)) w.first_bursts ∙ ap (λ (l : List Burst). b ∷ l) c.heard in
    let sends : Run means BenchDoes (sent (head_of s)) q₂ heard = sent_run (head_of s) q c.cells window_codes NoMessage NoMessage (omega arith) soon
    (codes_are s (rows_of s.row) w.begins window_codes w.codes)
    (message_is s (rows_of s.row) w.begins 0 NoMessage w.first_message)
    (message_is s (rows_of s.row) w.begins 1 NoMessage w.second_message) c.run in
    let among : Contains (all_bursts heard) b = subst (λ l. Contains l b) (sym all) (0, omega arith, refl) in
    let settles = settled_run (sent (head_of s)) q₂ heard F (report_of x) (omega arith) refl (report-length x)
    (report_true (all_bursts heard) F x w.parity w.holds (inr (inr (b, among, w.brings)))) sends in
    let last : settled (sent (head_of s)) F (report_of x) ≡ head_of t =
    settled_is s (rows_of s.row) w.begins (report_of x) t.row t.machine w.settles ∙ ap (λ n. head_of (record t { frame = n })) w.next in
    record {
      came = record {
        cells = heard;
        run = subst (λ k. Run means BenchDoes k t.machine heard) last (subst (λ y. Run means BenchDoes (settled (sent (head_of s)) F (report_of x)) y heard) w.machine settles);
        heard = all;
        trip = subst (λ (y : Machine). y.onu.trip.value ≡ 20000) w.machine t₂;
        far = far_more (head_of s) q₂ b₂ (cell (head_of s) q₁ b₁ ∷ c.cells) t₂ (far_more (head_of s) q₁ b₁ c.cells t₁ c.far);
      };
      before = subst (λ y. Run means BenchDoes (sent (head_of s)) y heard) w.machine sends;
      last = last;
    }
