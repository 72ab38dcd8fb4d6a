pub mod Downstream
pub mod Fault
pub mod Kept
pub mod Laws
