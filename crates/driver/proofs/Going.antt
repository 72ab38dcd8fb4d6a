-- Each call takes a succession on by one.
use Rattle.std.proofs.Common.{◌≡◌, ℕ, ◌/◌, List, [], All, Ok, Err, sym, refl, subst}
use Rattle.std.specs.List.{Contains}
use Rattle.std.specs.Prelude.{nat_lt}
use Rattle.receiver.specs.Receiver.{reported}
use Rattle.head.specs.Steps.{Answer, fresh, settle_answer, settle_head, handed_back}
use Rattle.head.specs.declared.head.Head.{Head}
use Rattle.onu.specs.declared.state.Onu.{Onu}
use Rattle.plant.specs.Lawful.{Does}
use Rattle.plant.specs.declared.burst.Burst.{Burst}
use Rattle.line.specs.Calls.{Call, settle, next}
use Rattle.line.specs.Run.{HeardCell, all_bursts, New, Distinct, Honest, NoFrame, Run, begins, drifts, calls}
use Rattle.line.proofs.Answers.{ok_both}
use Rattle.line.proofs.Bursts.{among_contains, contains_among}
use Rattle.driver.proofs.Reports.{among_filter, true_report}
use Rattle.driver.specs.Driver.{Came, Goes, GoesDrifting, kept}
use Rattle.driver.specs.declared.driven.Line.{Line}

nothing : (xs : List Burst) (b : Burst) → xs ≡ [] → Contains xs b → Contains [] b
nothing xs b e h = subst (λ (ys : List Burst). Contains ys b) e h

-- an accepted settle, by its answer
pub settled_ok : (docket : ℕ) (r : Answer) (u : Unit {0}) → handed_back docket r ≡ Ok u → r ≡ Ok tt
settled_ok docket (Ok v) u e = refl
settled_ok docket (Err why) u e = absurd cc

kept_held : (r : Answer) (docket : ℕ) (bs : List Burst) (x : Burst) → Contains (kept r docket bs) x → Contains bs x
kept_held r docket bs x =
    ok_both r _ bs (λ (ys : List Burst). Contains ys x → Contains bs x)
    (λ v e m. among_contains (among_filter (λ b. nat_lt docket (b.slot / 53)) bs x (contains_among _ x m)).0) (λ why e m. m)

module _ {P : Type 0} (means : P → List Onu) (does : Does P) where
  -- a new head before a plant of new ONUs
  pub came_new : (line : Line P) → line.head ≡ fresh → line.bursts.items ≡ [] → All New (means line.plant) → Distinct (means line.plant) → Came means does line []
  came_new line h e n d =
      record {
        run = subst (λ (x : Head). Run means does x line.plant []) (sym h) (begins line.plant n d);
        heard = λ b. nothing line.bursts.items b e;
      }

  -- a call that sends no frame, and leaves the plant and the bursts
  pub goes_call : (c : Call) (a b : Line P) → NoFrame c a.head → ((cells : List HeardCell) → Came means does a cells → Honest cells c a.head)
      → b.head ≡ next c a.head → b.plant ≡ a.plant → ((x : Burst) → Contains b.bursts.items x → Contains a.bursts.items x) → Goes means does a b
  goes_call c a b quiet honest h p sub cells came =
      record {
        run = subst (λ (x : Head). Run means does x b.plant cells) (sym h)
            (subst (λ (q : P). Run means does (next c a.head) q cells) (sym p) (calls c came.run quiet (honest cells came)));
        heard = λ x m. came.heard x (sub x m);
      }

  -- a settle of the bench receiver's report of the bursts held, which are then all or some of those
  pub goes_settle : (docket : ℕ) (marks : List ℕ) (a b : Line P) → b.head ≡ settle_head a.head docket (reported docket a.bursts.items marks 53) → b.plant ≡ a.plant
      → b.bursts.items ≡ kept (settle_answer a.head docket 954) docket a.bursts.items → Goes means does a b
  goes_settle docket marks a b h p e =
      goes_call (settle docket (reported docket a.bursts.items marks 53)) a b tt
      (λ cells came ok. true_report docket a.bursts.items (all_bursts cells) marks came.heard) h p
      (λ x m. kept_held (settle_answer a.head docket 954) docket a.bursts.items x (subst (λ (ys : List Burst). Contains ys x) e m))

  -- the plant's ONUs moved by themselves
  pub goes_drifting : (line : Line P) → GoesDrifting means does line
  goes_drifting line plant d cells came = record { run = drifts plant came.run d; heard = came.heard }
