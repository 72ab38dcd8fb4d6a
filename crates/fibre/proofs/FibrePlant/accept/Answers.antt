use Rattle.std.proofs.Common.{rules}
use Rattle.std.proofs.lemmas.List.Edits.{map_over_more}
use Rattle.fibre.specs.Fibre.{farther}
use Rattle.fibre.proofs.FibrePlant.accept.Goals as goal

pub loop-burst-preserved : goal.loop-burst-preserved
loop-burst-preserved g c = search (rules, map_over_more (farther c.args.self.now.bits.value))
