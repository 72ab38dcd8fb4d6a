use Rattle.line.proofs.Overlap.{no_overlap}
use Rattle.line.proofs.laws.no_overlap.Goals as goal

pub returns : goal.returns
returns g c = no_overlap _ _ g.met.P.Plant.lawful
