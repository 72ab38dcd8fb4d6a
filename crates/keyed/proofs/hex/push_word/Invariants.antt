-- The bytes of the pairs so far stand after those that were there.
use Rattle.std.proofs.Common.{◌≡◌, List, ℕ, ◌++◌}
use Rattle.std.specs.Char.{to_ascii_lowercase}
use Rattle.keyed.proofs.Reading.{SoFar}
use Rattle.keyed.proofs.hex.push_word.Given as goal

abbrev pub invariant-loop-high : goal.invariant-loop-high
invariant-loop-high l =
    (done : List ℕ) × (l.bytes.items ≡ l.initial.bytes.items ++ done) × SoFar to_ascii_lowercase l.high-items done l.high-index
