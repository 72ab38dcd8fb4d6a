use Rattle.std.proofs.Common.{ap, ◌∙◌}
use Rattle.payload.specs.Frame.{frame_of}
use Rattle.payload.proofs.CellAgain.{cell_again}
use Rattle.payload.proofs.FrameAgain.{frame_again}
use Rattle.payload.proofs.laws.reading_undoes_writing_frame.Goals as goal

pub returns : goal.returns
returns c =
    record { result = c.read_frame.ensures ∙ ap frame_of c.write_frame.ensures.bytes ∙ frame_again c.args.frame.now; law = (cell_again, frame_again) }
