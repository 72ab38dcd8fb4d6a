use Rattle.std.proofs.Common.{sym, ◌∙◌}
use Rattle.cell_line.proofs.Numerals.{octets_text, no_bytes}
use Rattle.cell_line.proofs.parse.value.OctetsValue.read.Goals as goal

pub returns : goal.returns
returns g c = octets_text g.row.N _ _ c.new.result c.new.ensures c.in_ok-octets.ensures

pub returns-in_err-octets : goal.returns-in_err-octets
returns-in_err-octets g c = rw c.from_residual.ensures (λ octets fit. no_bytes g.row.N _ octets.bytes (sym c.octets.ensures ∙ c.in_err-octets.was) octets.full fit)
