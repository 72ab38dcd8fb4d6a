pub mod Clamps
pub mod Geometry
pub mod Turns
