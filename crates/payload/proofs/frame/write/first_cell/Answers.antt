use Rattle.std.proofs.Common.{◌≡◌, rules}
use Rattle.std.specs.List.{between}
use Rattle.payload.specs.Frame.{first_cell}
use Rattle.payload.proofs.Pieces.{one_piece}
use Rattle.payload.proofs.frame.write.first_cell.Goals as goal

pub returns : goal.returns
unfolding first_cell
returns c =
    let e : c.put.new.out ≡ between 0 27 c.args.frame.now.grants.codes = one_piece _ _ 27 (cc) (search rules) in
    cc
