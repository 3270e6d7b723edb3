pub mod Widened
pub mod Copies
