pub mod Bounded
pub mod Bytes
pub mod Number
pub mod Delay
pub mod Grant
pub mod Minislot
pub mod Octets
pub mod Check
