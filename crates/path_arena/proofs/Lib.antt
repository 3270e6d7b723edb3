pub mod Keys
pub mod Slots
pub mod Paths
pub mod Stores
pub mod Puts
pub mod Births
pub mod Calls
pub mod Steps
