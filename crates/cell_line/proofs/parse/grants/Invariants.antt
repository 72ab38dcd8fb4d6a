-- The runs so far fill the cell from its start.
use Rattle.std.proofs.Common.{◌≡◌, ◌≤◌, length, map, take}
use Rattle.cell_line.proofs.Runs.{RunsSoFar}
use Rattle.cell_line.proofs.parse.grants.Given as goal

abbrev pub invariant-loop-part : goal.invariant-loop-part
invariant-loop-part l = (length l.grants ≡ 27) × (l.filled ≤ 27) × RunsSoFar (take l.filled l.grants) l.last (map (λ x. x.now) l.yielded)
