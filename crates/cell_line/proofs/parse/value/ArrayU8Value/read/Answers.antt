use Rattle.cell_line.proofs.Numerals.{bytes_text}
use Rattle.cell_line.proofs.parse.value.ArrayU8Value.read.Goals as goal

pub returns : goal.returns
returns g c = bytes_text g.row.N _ c.octets.result c.octets.ensures
