-- The history, from a new head to the report of frame 2,063.
use Rattle.std.proofs.Common.{◌≡◌, ℕ, zero, suc, List, [], ◌∷◌, Some, refl, sym, ap, ◌∙◌, subst, arith}
use Rattle.std.specs.List.{All, Contains}
use Rattle.field.proofs.Bounds.{up_to_in}
use Rattle.message.specs.declared.downstream.Downstream.TheVariants.{NoMessage, RangingTime}
use Rattle.onu.specs.declared.state.Onu.{Onu}
use Rattle.bench.specs.Bench.{BenchDoes}
use Rattle.bench.specs.Benches.{bench_lawful}
use Rattle.head.specs.Steps.{sent}
use Rattle.line.proofs.Bursts.{contains_among, among_none}
use Rattle.line.specs.Calls.{enter}
use Rattle.line.specs.NoOverlap.{opening, Steady}
use Rattle.line.specs.Run.{HeardCell, New, Run, begins, calls}
use Rattle.rules.specs.Job.{delay_told, measured_told}
use Rattle.history.specs.History.{means, History}
use Rattle.history.proofs.Chain.{head_of, Far, Came, after_came}
use Rattle.history.proofs.Open.{Opened, opened}
use Rattle.history.proofs.Reports.{report_of, report-length}
use Rattle.history.proofs.Stages.{place_0, serial_7, delay_15392, first, brought, brought_after, measured, told, told_after}
use Rattle.history.proofs.Steps.{settle_is}
use Rattle.history.proofs.Windows.{measured_burst, measured_record, serving_burst, serving_record, served, measuring, serving}

-- the premise on round trips
far_steady : (guard : ℕ) (cells : List HeardCell) → Far cells → Steady guard cells
far_steady guard cells f =
    let at : (c : HeardCell) → Contains cells c → (o : Onu) → Contains c.onus o → o.trip.value ≡ 20000 =
    λ c m o k. f c (contains_among cells c m) o (contains_among c.onus o k) in
    record {
      near = λ c m o k. let e = at c m o k in omega arith;
      still = λ c d m n o o' k l same. let e = at c m o k in let e' = at d n o' l in omega arith;
    }

-- one ONU
new_one : (o : Onu) → New o → All New (o ∷ [])
new_one o n zero d h = n
new_one o n (suc k) d h = absurd (omega arith)

-- it is entered on a new head
entered_run : Run means BenchDoes (head_of first) first.machine []
entered_run = calls (enter 0 serial_7) (begins first.machine (new_one first.machine.onu (record { first = refl; nobody = refl; mute = (refl, refl) })) (λ i j d l k e. absurd (omega arith))) tt tt

-- nothing was heard yet
first_came : Came first []
first_came = record { cells = []; run = entered_run; heard = refl; trip = refl; far = λ c m o k. absurd (among_none m) }

-- the delay is told
tells_delay : measured_told place_0 (Some 15392) ≡ RangingTime place_0 delay_15392
tells_delay = ap (delay_told place_0) (up_to_in 32000 15392 delay_15392.high)

-- up to the report of frame 1,039, and up to that of frame 2,063
measured_came : Opened brought measured measured_burst [] measured_record
measured_came = opened brought measured measured_burst [] measured_record (omega arith) measuring (after_came NoMessage 1039 first brought [] (omega arith) refl brought_after first_came)

served_came : Opened told served serving_burst (measured_burst ∷ []) serving_record
served_came =
    opened told served serving_burst (measured_burst ∷ []) serving_record (omega arith) serving
    (after_came (RangingTime place_0 delay_15392) 1023 measured told (measured_burst ∷ []) (omega arith) tells_delay told_after measured_came.came)

-- all of it
pub history : History
history =
    let o = served_came in
    record {
      before = sent (head_of told);
      after = head_of served;
      onu = served.machine;
      cells = o.came.cells;
      report = report_of serving_record;
      lawful = λ x y p f new l k d. bench_lawful x y p f new d;
      run_before = o.before;
      run = o.came.run;
      steady = far_steady (opening o.came.cells) o.came.cells o.came.far;
      last = sym (settle_is (sent (head_of told)) 2063 (report_of serving_record) (omega arith) refl (report-length serving_record) ∙ o.last);
      frames = refl;
      settled = refl;
      trip = refl;
      owner = refl;
      sender = refl;
      measured = measured_burst;
      heard = subst (λ l. Contains l measured_burst) (sym o.came.heard) (1, omega arith, refl);
      slot = refl;
      start = refl;
      delay = refl;
      register = refl;
      state = refl;
      waiting = refl;
      serving = refl;
    }
