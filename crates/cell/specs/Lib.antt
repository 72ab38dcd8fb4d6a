pub mod Fault
pub mod Reader
