-- What every head keeps, whatever was called.
use Rattle.line.proofs.Heads.{heads_stand}
use Rattle.line.proofs.laws.heads_stand.Goals as goal

pub returns : goal.returns
returns c = heads_stand
