use Rattle.std.proofs.Common.{◌∙◌, sym, arith}
use Rattle.floor.proofs.Dockets.{newest_stays}
use Rattle.floor.proofs.desk.Desk.settle_newest.Goals as goal

pub invariant_of-self-in-Ok : goal.invariant_of-self-in-Ok
invariant_of-self-in-Ok c =
    absurd (newest_stays c.args.self.now.line.head c.in_ok-docket.docket _ _ c.in-Ok.field-0 c.in_ok-docket.ensures.items (grind arith) c.args.self.now.held
    (sym c.settle.ensures.answer ∙ c.in-Ok.is))

pub returns-in-Ok-clause-same : goal.returns-in-Ok-clause-same
returns-in-Ok-clause-same c =
    absurd (newest_stays c.args.self.now.line.head c.in_ok-docket.docket _ _ c.in-Ok.field-0 c.in_ok-docket.ensures.items (grind arith) c.args.self.now.held
    (sym c.settle.ensures.answer ∙ c.in-Ok.is))
