use Rattle.std.proofs.Common.{◌≡◌, [], ◌∷◌, ◌++◌, rules}
use Rattle.std.specs.List.{between}
use Rattle.field.specs.declared.grant.Grant.TheVariants.{Idle}
use Rattle.field.specs.Grant.{code_of}
use Rattle.payload.specs.Frame.{second_cell}
use Rattle.payload.proofs.Pieces.{two_pieces}
use Rattle.payload.proofs.frame.write.second_cell.Goals as goal

pub returns : goal.returns
unfolding second_cell
returns c =
    let e : c.put-2.new.out ≡ between 27 53 c.args.frame.now.grants.codes ++ code_of Idle ∷ [] = two_pieces (between 27 53 c.args.frame.now.grants.codes) (code_of Idle ∷ []) c.put.new.out c.put-2.new.out 26 27 (cc) (cc) (search rules) in
    cc
