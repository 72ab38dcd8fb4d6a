pub mod Message
pub mod Fault
pub mod Laws
