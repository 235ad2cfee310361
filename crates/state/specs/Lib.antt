pub mod Maps
pub mod Sort
pub mod Sorted
pub mod Records
pub mod Setters
