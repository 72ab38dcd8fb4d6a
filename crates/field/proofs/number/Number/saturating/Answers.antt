use Rattle.field.specs.Number.{capped}
use Rattle.field.proofs.Bounds.{number_same}
use Rattle.field.proofs.number.Number.saturating.Goals as goal

pub returns : goal.returns
unfolding capped
returns g c = number_same _ _ _ c.min.ensures _ _
