use Rattle.std.proofs.Common.{◌≡◌, ◌≤◌, drop}
use Rattle.star.specs.Star.{lit_in}
use Rattle.star.proofs.StarPlant.count.Given as goal

abbrev pub invariant-loop-arm : goal.invariant-loop-arm
invariant-loop-arm g l = (lit_in g.P.Plant.means 0 l.arm-items ≡ lit_in g.P.Plant.means l.lit (drop l.arm-index l.arm-items)) × (l.lit ≤ 64)
