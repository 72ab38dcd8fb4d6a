use Rattle.std.proofs.Common.{◌≡◌, take}
use Rattle.field.specs.Check.{check_of}
use Rattle.field.proofs.check.after_bytes.Given as goal

abbrev pub invariant-loop-byte : goal.invariant-loop-byte
invariant-loop-byte l = l.preset ≡ 0 → l.check ≡ check_of (take l.byte-index l.bytes)
