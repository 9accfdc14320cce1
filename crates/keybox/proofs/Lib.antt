pub mod BufferLaws
pub mod TagLaws
