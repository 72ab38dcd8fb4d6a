use Rattle.std.proofs.Common.{refl, ◌≡◌, arith}
use Rattle.cell_line.proofs.Numerals.{same_number}
use Rattle.cell_line.proofs.run.length.Goals as goal

pub returns-in_default : goal.returns-in_default
returns-in_default c = (
  refl,
  λ n low high e.
      let same : c.in-Some.count ≡ n = same_number c.in-Some.count n c.args.text.now (omega arith) (omega arith) c.in-Some.ensures e in
      omega arith,
)

pub returns-in_default-2 : goal.returns-in_default-2
returns-in_default-2 c = (
  refl,
  λ n low high e.
      let same : c.in-Some.count ≡ n = same_number c.in-Some.count n c.args.text.now (omega arith) (omega arith) c.in-Some.ensures e in
      omega arith,
)
