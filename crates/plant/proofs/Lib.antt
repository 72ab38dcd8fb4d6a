pub mod Overlaps
pub mod Rows
pub mod Lists
pub mod Room
