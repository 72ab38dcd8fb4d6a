pub mod Drifting
