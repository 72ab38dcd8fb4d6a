use Rattle.keyed.proofs.OneWay.{one_way}
use Rattle.keyed.proofs.hex.words_are_one.Goals as goal

pub returns : goal.returns
returns c = one_way
