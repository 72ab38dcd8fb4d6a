mod Hexes
mod Reading
mod Wording
pub mod Again
mod OneWay
