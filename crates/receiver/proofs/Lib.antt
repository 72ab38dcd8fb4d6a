pub mod Lengths
mod Rows
mod Slots
