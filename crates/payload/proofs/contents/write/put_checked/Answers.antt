use Rattle.std.proofs.Common.{append_assoc, rules}
use Rattle.payload.proofs.contents.write.put_checked.Goals as goal

pub returns : goal.returns
returns c = search (rules, append_assoc)
