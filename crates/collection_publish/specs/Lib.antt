pub mod Tests
pub mod Publish
