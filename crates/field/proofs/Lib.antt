pub mod Bounds
pub mod Readings
pub mod Numbers
pub mod Division
pub mod Codes
pub mod Runs
