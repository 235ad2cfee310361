pub mod Records
pub mod OwnBytes
