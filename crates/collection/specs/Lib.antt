pub mod After
pub mod AfterLaws
pub mod Tests
pub mod Configure
pub mod Abandon
