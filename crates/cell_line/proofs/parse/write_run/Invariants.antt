-- The places so far hold the run's grant, and those before are as they were.
use Rattle.std.proofs.Common.{◌≡◌, ◌-◌, ◌++◌, length, take, replicate}
use Rattle.cell_line.proofs.parse.write_run.Given as goal

abbrev pub invariant-loop-place : goal.invariant-loop-place
invariant-loop-place l = (length l.grants ≡ 27) × (take l.place l.grants ≡ take l.fn.from l.initial.grants ++ replicate (l.place - l.fn.from) l.fn.run.grant)
