use Rattle.std.proofs.Common.{arith}
use Rattle.cell_line.proofs.Numerals.{number_text}
use Rattle.cell_line.proofs.parse.value.NumberValue.read.Goals as goal

pub returns : goal.returns
returns g c = number_text g.row.HIGH _ _ c.new.result (omega arith) (omega arith) c.new.ensures c.in_ok-number.ensures
