pub mod Fields
pub mod Names
pub mod NotHex
pub mod Hex
pub mod Words
