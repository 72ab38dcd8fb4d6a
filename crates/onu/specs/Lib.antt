pub mod Onu
pub mod Answer
pub mod Facts
