pub mod Buffers
pub mod Lent
