use Rattle.std.proofs.Common.{append-nil, rules}
use Rattle.plant.specs.Heard.{heard_group}
use Rattle.plant.proofs.Rows.{answers_idle}
use Rattle.bench.proofs.ear.Ear.answer_group.Goals as goal

pub returns-then-is_ok : goal.returns-then-is_ok
unfolding heard_group
returns-then-is_ok c = search rules

pub returns-else-is_ok : goal.returns-else-is_ok
unfolding heard_group
returns-else-is_ok c = search (rules, answers_idle, append-nil)
