use Rattle.std.proofs.Common.{rules}
use Rattle.lossy_drop.proofs.LossyDropPlant.accept.Goals as goal
use Rattle.lossy_drop.proofs.LossyDropPlant.accept.Goals.{then-is_spoiled, else-is_spoiled}

pub returns : goal.returns
returns g c = elim c.if-is_spoiled.branch [ then-is_spoiled w ↦ search rules | else-is_spoiled w ↦ search rules ]
