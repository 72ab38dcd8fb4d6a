pub mod Dockets
