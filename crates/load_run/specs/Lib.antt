pub mod Draws
pub mod Stars
pub mod Report
pub mod Rows
