pub mod Joining
pub mod Starts
pub mod Views
pub mod Owing
pub mod Listing
pub mod Stage
pub mod Growth
pub mod Stages
