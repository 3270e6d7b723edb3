pub mod Victims
pub mod Walk
pub mod Under
pub mod Refreshing
