-- The digits of the bytes so far stand in front.
use Rattle.std.proofs.Common.{◌≡◌, ◌*◌, length, take}
use Rattle.keyed.specs.Fields.{hexed}
use Rattle.keyed.proofs.hex.digits_of.Given as goal

abbrev pub invariant-loop-place : goal.invariant-loop-place
invariant-loop-place l = (length l.text ≡ 64) × (take (2 * l.place) l.text ≡ hexed (take l.place l.bytes))
