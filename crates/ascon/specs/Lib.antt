pub mod Permutation
pub mod Blocks
pub mod Aead
pub mod Hash
pub mod Keyed
pub mod Laws
