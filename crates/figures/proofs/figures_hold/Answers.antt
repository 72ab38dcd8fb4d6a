use Rattle.figures.proofs.Computed.{figures_hold}
use Rattle.figures.proofs.figures_hold.Goals as goal

pub returns : goal.returns
returns c = figures_hold
