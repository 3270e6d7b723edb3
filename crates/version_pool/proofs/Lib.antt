mod Sound
mod Granting
mod Steps
pub mod Versions
pub mod Pairs
