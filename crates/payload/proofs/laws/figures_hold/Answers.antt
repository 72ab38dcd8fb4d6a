use Rattle.std.proofs.Common.{refl, lit<}
use Rattle.field.specs.Check.{brought, coefficients, shifted, check_of}
use Rattle.field.proofs.Bounds.{up_to_out}
use Rattle.payload.proofs.laws.figures_hold.Goals as goal

pub returns : goal.returns
unfolding check_of coefficients shifted brought
returns c = (refl, refl, refl, refl, refl, refl, up_to_out 32000 32001 (lit< tt))
