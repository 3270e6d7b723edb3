pub mod Writes
pub mod Takes
