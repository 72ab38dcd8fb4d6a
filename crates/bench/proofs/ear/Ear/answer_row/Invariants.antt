use Rattle.std.proofs.Common.{take}
use Rattle.plant.specs.Lawful.{answers, steady}
use Rattle.bench.specs.Appended.{Appended}
use Rattle.bench.proofs.ear.Ear.answer_row.Given as goal

abbrev pub invariant-loop-i : goal.invariant-loop-i
invariant-loop-i l = Appended l.initial.bursts l.bursts (answers (steady l.self.free) l.self.onu.now l.slot (take l.i l.grants))
