use Rattle.keyed.proofs.Again.{agree}
use Rattle.keyed.proofs.hex.reading_undoes_writing.Goals as goal

pub returns : goal.returns
returns c = agree
