use Rattle.std.proofs.Common.{arith}
use Rattle.cell_line.proofs.Numerals.{byte_text, tried}
use Rattle.cell_line.proofs.parse.value.U8Value.read.Goals as goal

pub returns : goal.returns
returns c = byte_text c.in_ok-number.field-0 _ c.ok.result (omega arith) c.in_ok-number.ensures (tried c.in_ok-number.field-0 c.try_from.result c.ok.result c.try_from.ensures c.ok.ensures.value)
