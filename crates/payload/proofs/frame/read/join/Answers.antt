use Rattle.std.proofs.Common.{ap, ◌∙◌, rules}
use Rattle.std.specs.List.{between}
use Rattle.field.specs.Octets.{grants_of}
use Rattle.payload.specs.Frame.{joined}
use Rattle.payload.proofs.Pieces.{two_pieces}
use Rattle.payload.proofs.frame.read.join.Goals as goal

pub returns : goal.returns
unfolding joined
returns c =
    c.from_codes.ensures
    ∙ ap (grants_of 53) (two_pieces c.args.first.codes (between 0 26 c.args.second.codes) c.put.new.out c.put-2.new.out 27 53 (cc) (cc) (search rules))
