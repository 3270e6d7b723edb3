pub mod Lists
pub mod Shares
pub mod States
pub mod Worked
