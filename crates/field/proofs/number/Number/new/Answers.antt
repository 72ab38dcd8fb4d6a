use Rattle.std.proofs.Common.{sym}
use Rattle.field.proofs.Bounds.{up_to_in, up_to_out}
use Rattle.field.proofs.number.Number.new.Goals as goal

pub returns-then-value : goal.returns-then-value
returns-then-value g c = sym (up_to_in _ _ _)

pub returns-else-value : goal.returns-else-value
returns-else-value g c = sym (up_to_out _ _ c.if-value.false)
