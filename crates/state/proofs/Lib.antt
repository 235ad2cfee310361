pub mod MapLaws
pub mod SortedLaws
pub mod SortLaws
pub mod RecordLaws
pub mod Places
