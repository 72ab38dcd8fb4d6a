pub mod Splitter
pub mod Splits
