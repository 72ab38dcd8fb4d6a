use Rattle.std.proofs.Common.{rules}
use Rattle.std.proofs.lemmas.Slice.{take-put_mid}
use Rattle.payload.proofs.contents.write.put.Goals as goal

pub returns : goal.returns
returns c = search (rules, take-put_mid)
