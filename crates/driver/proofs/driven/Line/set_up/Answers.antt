use Rattle.std.proofs.Common.{refl}
use Rattle.line.specs.Calls.{set_up}
use Rattle.driver.proofs.Going.{goes_call}
use Rattle.driver.proofs.driven.Line.set_up.Goals as goal

pub returns-clause-goes : goal.returns-clause-goes
returns-clause-goes g c =
    goes_call g.P.Plant.means g.P.Plant.does (set_up c.args.guard c.args.pattern c.args.first c.args.calendar.now) c.args.self.now _ tt (λ cells came. tt) c.set_up.ensures.head refl (λ x m. m)
