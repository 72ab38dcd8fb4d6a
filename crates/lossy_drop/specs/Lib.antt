pub mod LossyDrop
pub mod Deaf
