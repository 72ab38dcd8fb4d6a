use Rattle.std.proofs.Common.{arith}
use Rattle.cell_line.proofs.Numerals.{bounded_text}
use Rattle.cell_line.proofs.parse.value.BoundedValue.read.Goals as goal

pub returns : goal.returns
returns g c = bounded_text g.row.LOW g.row.HIGH _ _ c.new.result (omega arith) (omega arith) c.new.ensures c.in_ok-read.ensures
