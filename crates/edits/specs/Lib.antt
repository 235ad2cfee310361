pub mod Changes
pub mod PlaceLaws
