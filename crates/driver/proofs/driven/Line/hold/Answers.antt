use Rattle.std.proofs.Common.{refl}
use Rattle.line.specs.Calls.{hold}
use Rattle.driver.proofs.Going.{goes_call}
use Rattle.driver.proofs.driven.Line.hold.Goals as goal

pub returns-clause-goes : goal.returns-clause-goes
returns-clause-goes g c =
    goes_call g.P.Plant.means g.P.Plant.does (hold c.args.place) c.args.self.now _ tt (λ cells came. tt) c.hold.ensures.head refl (λ x m. m)
