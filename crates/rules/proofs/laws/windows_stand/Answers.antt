use Rattle.rules.proofs.Geometry.{windows_stand}
use Rattle.rules.proofs.laws.windows_stand.Goals as goal

pub returns : goal.returns
returns c = windows_stand
