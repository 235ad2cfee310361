pub mod Tests
pub mod PrepareCall
pub mod StoredLaws
pub mod PublishCall
