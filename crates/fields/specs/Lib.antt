pub mod Format
pub mod Codes
pub mod Walks
pub mod Rows
