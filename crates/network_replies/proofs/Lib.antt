pub mod Rows
pub mod Texts
pub mod Plans
pub mod Seen
pub mod Written
pub mod Reported
