pub mod Wanted
pub mod Line
