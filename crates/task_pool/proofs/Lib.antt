pub mod Times
pub mod Steps
pub mod Listing
pub mod Filling
pub mod Places
