use Rattle.history.proofs.Story.{history}
use Rattle.history.proofs.history_stands.Goals as goal

pub returns : goal.returns
returns c = history
