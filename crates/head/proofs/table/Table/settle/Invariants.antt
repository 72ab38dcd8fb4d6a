-- What is left to settle gives the table that is wanted.
use Rattle.std.proofs.Common.{◌≡◌, ◌+◌, ◌-◌}
use Rattle.head.specs.Table.{settled_rows, records_from}
use Rattle.head.proofs.table.Table.settle.Given as goal

abbrev pub invariant-loop-k : goal.invariant-loop-k
invariant-loop-k l =
    settled_rows l.settings l.now l.frame (l.k + 1) (records_from l.report l.k (53 - l.k)) l.self.rows
    ≡ settled_rows l.settings l.now l.frame 1 (records_from l.report 0 53) l.initial.self.rows
