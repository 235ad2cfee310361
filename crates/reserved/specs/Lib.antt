pub mod Located
pub mod Passed
