use Rattle.rules.proofs.Geometry.{rounds_stand}
use Rattle.rules.proofs.laws.rounds_stand.Goals as goal

pub returns : goal.returns
returns c = rounds_stand
