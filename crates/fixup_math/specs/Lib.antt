pub mod Ranks
pub mod Joins
pub mod Settling
pub mod Refresh
