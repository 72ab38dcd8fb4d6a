use Rattle.std.proofs.Common.{refl}
use Rattle.driver.proofs.Going.{goes_drifting}
use Rattle.driver.proofs.driven.Line.plant_mut.Goals as goal

pub returns : goal.returns
returns g c =
    ((refl, λ w. refl), record { writes_back = tt; plant = refl; goes = goes_drifting g.P.Plant.means g.P.Plant.does c.args.self.now })
