-- The bytes of the words so far are read.
use Rattle.std.proofs.Common.{◌≡◌, Some, map}
use Rattle.keyed.specs.Hex.{words_bytes}
use Rattle.keyed.proofs.hex.bytes.Given as goal

abbrev pub invariant-loop-word : goal.invariant-loop-word
invariant-loop-word l = words_bytes (map (λ x. x.now) l.yielded) ≡ Some l.bytes.items
