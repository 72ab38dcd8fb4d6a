pub mod Driver
pub mod Halt
