pub mod Drawing
pub mod Summing
pub mod Making
