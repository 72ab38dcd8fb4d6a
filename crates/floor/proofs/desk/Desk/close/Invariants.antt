use Rattle.std.proofs.Common.{length}
use Rattle.floor.proofs.desk.Desk.close.Given as goal

abbrev pub decreases-loop : goal.decreases-loop
decreases-loop l = length l.self.dockets.items
