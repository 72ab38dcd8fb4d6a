use Rattle.std.proofs.Common.{arith}
use Rattle.splitter.specs.Splits.{length-joined}
use Rattle.splitter.proofs.SplitterPlant.count.Goals as goal

pub returns-then-both-le64 : goal.returns-then-both-le64
returns-then-both-le64 g c =
    omega (arith, length-joined (g.P.Plant.means c.args.self.now.one) (g.Q.Plant.means c.args.self.now.two) (omega arith))
