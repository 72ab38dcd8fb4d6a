use Rattle.std.proofs.Common.{ap, ◌∙◌, rules}
use Rattle.field.specs.Octets.{grants_of}
use Rattle.cell.specs.Reader.{group_of}
use Rattle.payload.specs.Cell.{grants_in}
use Rattle.cell.specs.declared.fault.Group.TheVariants.{First, Second, Third, Fourth}
use Rattle.payload.proofs.Pieces.{four_pieces}
use Rattle.payload.proofs.contents.read.grants_of.Goals as goal

pub returns : goal.returns
unfolding grants_in
returns c =
    let b = c.args.cell.now.bytes.now in
    c.from_codes.ensures
    ∙ ap (grants_of 27) (four_pieces (group_of First b) (group_of Second b) (group_of Third b) (group_of Fourth b) c.put.new.out c.put-2.new.out c.put-3.new.out c.put-4.new.out (cc) (cc) (cc) (cc) (search rules))
