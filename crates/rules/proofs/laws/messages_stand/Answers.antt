use Rattle.rules.proofs.Turns.{messages_stand}
use Rattle.rules.proofs.laws.messages_stand.Goals as goal

pub returns : goal.returns
returns c = messages_stand
