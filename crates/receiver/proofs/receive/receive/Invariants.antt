use Rattle.std.proofs.Common.{◌≡◌, ◌*◌, take}
use Rattle.receiver.specs.Receiver.{reported}
use Rattle.receiver.proofs.receive.receive.Given as goal

abbrev pub invariant-loop-x : goal.invariant-loop-x
invariant-loop-x l = take (18 * l.x) l.report ≡ reported l.frame l.bursts l.marks l.x
