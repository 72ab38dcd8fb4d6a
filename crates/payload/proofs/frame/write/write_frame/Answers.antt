use Rattle.std.proofs.Common.{◌≡◌, true, eqb, length, ◌∙◌, rules}
use Rattle.std.proofs.lemmas.Bool.{eq-eqb}
use Rattle.payload.specs.Frame.{frame_bytes}
use Rattle.payload.proofs.Pieces.{halves}
use Rattle.payload.proofs.frame.write.write_frame.Goals as goal

pub returns : goal.returns
unfolding frame_bytes
returns c =
    let n : length c.args.out.now ≡ 96 = search rules in
    let t : eqb (length c.args.out.now) 96 ≡ true = eq-eqb _ _ n in
    let e = halves c.args.out.now c.fill_cell.new.out c.fill_cell-2.new.out n (search rules) (search rules) in
    record { result = rw t; bytes = rw t (e ∙ cc) }
