use Rattle.std.proofs.Common.{◌+◌, ◌<◌, sym, arith}
use Rattle.field.proofs.Bounds.{minislot_in, minislot_empty, minislot_long}
use Rattle.field.proofs.minislot.Minislot.new.Goals as goal
use Rattle.field.proofs.minislot.Minislot.new.Goals.{
  else-length-ge1-via-then-length-ge1+else-from-le53,
  else-length-ge1-via-else-length-ge1,
}

pub returns-then-from-le53 : goal.returns-then-from-le53
returns-then-from-le53 c = sym (minislot_in _ _ _ _)

pub returns-else-length-ge1 : goal.returns-else-length-ge1
returns-else-length-ge1 c =
    elim c.else-length-ge1.branch [
      | else-length-ge1-via-then-length-ge1+else-from-le53 w ↦ let past : 53 < c.args.offset + c.args.length = omega (arith, w.from.ensures, w.from-then-length-ge1.ensures) in
          sym (minislot_long _ _ past)
      | else-length-ge1-via-else-length-ge1 w ↦ sym (minislot_empty _ _ w.if-length-ge1.false)
    ]
