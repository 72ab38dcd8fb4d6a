-- Each round spends one more of the four.
use Rattle.std.proofs.Common.{◌+◌, ◌≤◌}
use Rattle.replay_script.specs.Held.{count}
use Rattle.replay_script.proofs.session.Session.end.Given as goal

abbrev pub invariant-loop : goal.invariant-loop
invariant-loop l = count l.self.held + l.counter ≤ 4
