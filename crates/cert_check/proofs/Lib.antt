pub mod Passing
pub mod Verdicts
pub mod Ways
