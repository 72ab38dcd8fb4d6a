use Rattle.std.proofs.Common.{append_assoc, append-nil, arith, rules}
use Rattle.plant.proofs.Rows.{answers_none, steady_more}
use Rattle.bench.proofs.Appends.{row_room}
use Rattle.bench.proofs.ear.Ear.answer_row.Goals as goal

pub loop-i-init : goal.loop-i-init
loop-i-init c = search (rules, answers_none, append-nil)

pub answer_grant-requires-clause-room : goal.answer_grant-requires-clause-room
answer_grant-requires-clause-room c = omega (arith, row_room _ _ _ _ _ c.loop-i-test.true c.loop-i.invariant)

pub loop-i-preserved : goal.loop-i-preserved
loop-i-preserved c = search (rules, steady_more, append_assoc)
