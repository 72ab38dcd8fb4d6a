use Rattle.std.proofs.Common.{arith}
use Rattle.floor.proofs.Dockets.{held_after}
use Rattle.floor.proofs.desk.Desk.settle.Goals as goal

pub invariant_of-self-clause-held : goal.invariant_of-self-clause-held
invariant_of-self-clause-held c =
    held_after c.args.self.now.line.head _ c.args.self.now.dockets.items _ c.remove-docket.result _ _ (grind arith) c.remove-docket.ensures.value c.settle.ensures.head
    c.remove-docket.ensures.items c.args.self.now.held
