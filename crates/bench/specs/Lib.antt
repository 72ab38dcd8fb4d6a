pub mod Appended
pub mod Bench
pub mod Benches
pub mod Ear
