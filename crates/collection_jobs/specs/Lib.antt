pub mod Conflicts
pub mod Input
pub mod Tests
pub mod FirstLaws
pub mod Prepare
