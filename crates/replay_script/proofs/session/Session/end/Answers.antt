use Rattle.std.proofs.Common.{arith}
use Rattle.replay_script.proofs.session.Session.end.Goals as goal

pub spent-requires : goal.spent-requires
spent-requires c = omega arith
