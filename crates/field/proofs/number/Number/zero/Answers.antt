use Rattle.field.specs.Number.{nought}
use Rattle.field.proofs.Bounds.{number_same}
use Rattle.std.proofs.Common.{refl}
use Rattle.field.proofs.number.Number.zero.Goals as goal

pub returns : goal.returns
unfolding nought
returns g c = number_same _ _ _ refl _ _
