pub mod Tests
pub mod RevisedLaws
pub mod RetireCall
pub mod ReserveCall
