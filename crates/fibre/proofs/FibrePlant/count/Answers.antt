use Rattle.std.proofs.Common.{rules}
use Rattle.std.proofs.lemmas.List.{length-map}
use Rattle.fibre.proofs.FibrePlant.count.Goals as goal

pub returns : goal.returns
returns g c = search (rules, length-map)
