pub mod Lawful
pub mod Tree
