pub mod Due
pub mod Tallies
pub mod Parts
pub mod Advance
