pub mod Names
pub mod Shown
pub mod Fault
