use Rattle.std.proofs.Common.{rules}
use Rattle.driver.proofs.Sending.{goes_heard}
use Rattle.driver.proofs.driven.Line.send.Goals as goal

pub returns-clause-goes : goal.returns-clause-goes
returns-clause-goes g c =
    goes_heard g.P.Plant.means g.P.Plant.does c.args.buffer.now c.in_ok-docket.docket c.args.self.now c.hear_frame.new.self (search rules) (search rules) (search rules)
