use Rattle.std.proofs.Common.{sym}
use Rattle.field.proofs.Bounds.{within_in, within_low, within-high}
use Rattle.field.proofs.bounded.Bounded.new.Goals as goal
use Rattle.field.proofs.bounded.Bounded.new.Goals.{else-value-via-then-value+else-value-2, else-value-via-else-value}

pub returns-then-value-2 : goal.returns-then-value-2
returns-then-value-2 g c = sym (within_in _ _ _ _ _)

pub returns-else-value : goal.returns-else-value
returns-else-value g c =
    elim c.else-value.branch [
      | else-value-via-then-value+else-value-2 w ↦ sym (within-high _ _ _ w.if-value-2.false)
      | else-value-via-else-value w ↦ sym (within_low _ _ _ w.if-value.false)
    ]
