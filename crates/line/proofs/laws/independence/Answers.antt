-- Reports of one place's slots tell nobody else anything.
use Rattle.line.proofs.Twins.{independence}
use Rattle.line.proofs.laws.independence.Goals as goal

pub returns : goal.returns
returns c = independence
