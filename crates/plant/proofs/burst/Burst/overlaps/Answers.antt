use Rattle.std.proofs.Common.{◌∙◌, arith}
use Rattle.plant.proofs.Overlaps.{judged}
use Rattle.plant.proofs.burst.Burst.overlaps.Goals as goal

pub returns : goal.returns
returns c =
    judged c.args.guard.value c.from-long.result c.abs_diff.result c.args.self.now c.args.other.now (omega arith)
    (c.from-long.ensures ∙ c.value.ensures.value) c.abs_diff.ensures
