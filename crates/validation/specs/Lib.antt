pub mod Errors
pub mod Validation
