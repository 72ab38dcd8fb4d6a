use Rattle.std.proofs.Common.{◌≡◌, ◌/◌, Ok, rules, tests, refl, sym, ◌∙◌}
use Rattle.std.specs.Prelude.{nat_lt}
use Rattle.std.proofs.lemmas.Fn.{filter_same}
use Rattle.head.specs.Steps.{settle_answer}
use Rattle.plant.specs.declared.burst.Burst.{Burst}
use Rattle.line.proofs.Answers.{ok_is}
use Rattle.driver.proofs.Going.{settled_ok, goes_settle}
use Rattle.driver.proofs.driven.Line.settle.Goals as goal

pub returns-clause-bursts : goal.returns-clause-bursts
returns-clause-bursts g c =
    let ok : settle_answer c.args.self.now.head c.args.docket.frame 954 ≡ Ok tt = settled_ok c.args.docket.frame _ tt (search rules) in
    filter_same _ (λ (b : Burst). nat_lt c.args.docket.frame (b.slot / 53)) _ (λ x b f k. search (rules, tests)) _ _ c.retain.ensures.filtered
    ∙ sym (ok_is (settle_answer c.args.self.now.head c.args.docket.frame 954) tt _ _ ok)

pub returns-clause-goes : goal.returns-clause-goes
returns-clause-goes g c =
    goes_settle g.P.Plant.means g.P.Plant.does c.args.docket.frame c.args.marks.now c.args.self.now _ (search rules) refl (returns-clause-bursts g c)
