pub mod Fibre
pub mod Far
