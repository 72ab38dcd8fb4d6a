pub mod Again
mod Parts
