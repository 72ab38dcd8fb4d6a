pub mod Offset
pub mod Record
