pub mod Skips
pub mod Seek
pub mod SeekLaws
