pub mod Gathering
pub mod Unique
pub mod Ranked
