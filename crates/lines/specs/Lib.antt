pub mod Hex
pub mod Outcome
