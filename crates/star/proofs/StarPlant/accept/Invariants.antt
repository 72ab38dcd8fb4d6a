use Rattle.star.proofs.Going.{Going}
use Rattle.star.proofs.StarPlant.accept.Given as goal

abbrev pub invariant-loop-arm : goal.invariant-loop-arm
invariant-loop-arm g l = Going g.P.Plant.means g.P.Plant.does l.cell.bytes.now l.first l.initial.arm-items l.arm-items l.arm-index l.lit l.initial.bursts l.bursts
