use Rattle.std.proofs.Common.{◌≡◌, ◌++◌, map, take, drop}
use Rattle.fibre.specs.Fibre.{farther}
use Rattle.fibre.proofs.FibrePlant.accept.Given as goal

abbrev pub invariant-loop-burst : goal.invariant-loop-burst
invariant-loop-burst g l =
    l.burst-items ≡ map (farther l.self.bits.value) (take l.burst-index l.initial.burst-items) ++ drop l.burst-index l.initial.burst-items
