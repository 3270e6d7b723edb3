pub mod Arena
pub mod Records
