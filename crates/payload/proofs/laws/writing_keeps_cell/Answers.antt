use Rattle.std.proofs.Common.{rules}
use Rattle.payload.proofs.CellKept.{cell_keeps}
use Rattle.payload.proofs.laws.writing_keeps_cell.Goals as goal

pub returns-in_err-contents : goal.returns-in_err-contents
returns-in_err-contents c = record { result = search rules; law = cell_keeps }

pub returns : goal.returns
returns c = record { result = search rules; law = cell_keeps }
