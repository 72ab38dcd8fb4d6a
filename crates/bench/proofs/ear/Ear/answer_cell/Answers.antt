use Rattle.std.proofs.Common.{append_assoc, arith, rules}
use Rattle.cell.specs.declared.fault.Group.TheVariants.{First, Second, Third}
use Rattle.plant.proofs.Rows.{answers_cell}
use Rattle.bench.proofs.Appends.{group_room}
use Rattle.bench.proofs.ear.Ear.answer_cell.Goals as goal

pub answer_group-requires-2-clause-room : goal.answer_group-requires-2-clause-room
answer_group-requires-2-clause-room c = omega (arith, group_room _ _ _ _ First c.requires.cell c.answer_group.ensures)

pub answer_group-requires-3-clause-room : goal.answer_group-requires-3-clause-room
answer_group-requires-3-clause-room c = omega (arith, group_room _ _ _ _ First c.requires.cell c.answer_group.ensures, group_room _ _ _ _ Second c.requires.cell c.answer_group-2.ensures)

pub answer_group-requires-4-clause-room : goal.answer_group-requires-4-clause-room
answer_group-requires-4-clause-room c =
    omega (arith, group_room _ _ _ _ First c.requires.cell c.answer_group.ensures, group_room _ _ _ _ Second c.requires.cell c.answer_group-2.ensures, group_room _ _ _ _ Third c.requires.cell c.answer_group-3.ensures)

pub returns : goal.returns
returns c = search (rules, answers_cell, append_assoc)
