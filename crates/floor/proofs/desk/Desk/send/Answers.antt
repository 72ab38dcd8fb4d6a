use Rattle.floor.proofs.Dockets.{held_sent}
use Rattle.floor.proofs.desk.Desk.send.Goals as goal

pub invariant_of-self-2-clause-held : goal.invariant_of-self-2-clause-held
invariant_of-self-2-clause-held c =
    let s = c.in_ok-docket.ensures.sent in
    held_sent c.args.self.now.line.head _ c.in_ok-docket.docket _ _ s.0 s.1 c.push_reserved.ensures.items c.args.self.now.held
