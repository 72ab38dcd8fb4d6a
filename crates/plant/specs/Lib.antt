pub mod Overlap
pub mod Heard
pub mod Lawful
pub mod Hearing
