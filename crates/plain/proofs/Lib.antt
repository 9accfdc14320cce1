pub mod Marking
pub mod Opening
pub mod Reading
