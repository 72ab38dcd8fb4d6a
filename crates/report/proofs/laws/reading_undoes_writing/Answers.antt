use Rattle.report.proofs.Again.{again}
use Rattle.report.proofs.laws.reading_undoes_writing.Goals as goal

pub returns : goal.returns
returns c = again
