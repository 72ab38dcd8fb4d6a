pub mod Star
pub mod Lit
