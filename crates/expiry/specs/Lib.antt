pub mod Due
pub mod Ended
pub mod InOrder
