use Rattle.std.proofs.Common.{rules}
use Rattle.payload.specs.Cell.{cell_bytes}
use Rattle.payload.proofs.contents.write.fill_cell.Goals as goal

pub returns : goal.returns
unfolding cell_bytes
returns c = search rules
