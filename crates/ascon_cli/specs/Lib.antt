pub mod Words
pub mod Errors
pub mod Lending
pub mod Fields
pub mod Commands
pub mod Format
pub mod Views
pub mod Stream
