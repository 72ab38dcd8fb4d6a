use Rattle.std.proofs.Common.{ap, ◌∙◌}
use Rattle.payload.specs.Cell.{cell_of}
use Rattle.payload.proofs.CellAgain.{cell_again}
use Rattle.payload.proofs.FrameAgain.{frame_again}
use Rattle.payload.proofs.laws.reading_undoes_writing_cell.Goals as goal

pub returns : goal.returns
returns c =
    record { result = c.read_cell.ensures ∙ ap cell_of c.write_cell.ensures.bytes ∙ cell_again c.args.contents.now; law = (cell_again, frame_again) }
