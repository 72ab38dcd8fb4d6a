use Rattle.plant.proofs.Overlaps.{stands}
use Rattle.plant.proofs.burst.overlap_stands.Goals as goal

pub returns : goal.returns
returns c = stands
