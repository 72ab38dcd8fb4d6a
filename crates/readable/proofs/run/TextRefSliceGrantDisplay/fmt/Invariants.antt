-- A run is no longer than what was gone through, and what is left gives the text that is wanted.
use Rattle.std.proofs.Common.{◌≡◌, ℕ, ◌+◌, ◌≤◌, List, ◌++◌, drop}
use Rattle.std.specs.Fmt.{HasWritten, IsPlainFormatter}
use Rattle.readable.specs.Shown.{runs_text}
use Rattle.readable.proofs.run.TextRefSliceGrantDisplay.fmt.Given as goal

abbrev pub invariant-loop-grant : goal.invariant-loop-grant
invariant-loop-grant g l =
    (l.run.count ≤ l.grant-index + 1)
    × (IsPlainFormatter l.initial.f → (done : List ℕ) × HasWritten g.W.Write.write_str_gives l.initial.f done l.f
    × (done ++ runs_text l.run.grant l.run.count (drop l.grant-index l.rest) ≡ runs_text l.initial.run.grant l.initial.run.count l.rest))
