pub mod Pieces
pub mod CellAgain
pub mod FrameAgain
pub mod CellKept
