-- The bytes of the pairs so far fill the array from its start.
use Rattle.std.proofs.Common.{◌≡◌, length, take}
use Rattle.keyed.proofs.Reading.{SoFar}
use Rattle.keyed.proofs.hex.octets.Given as goal

abbrev pub invariant-loop-place : goal.invariant-loop-place
invariant-loop-place g l = (length l.bytes ≡ g.row.N) × (length l.pairs ≡ g.row.N) × SoFar (λ c. c) l.pairs (take l.place l.bytes) l.place
