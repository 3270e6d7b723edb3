pub mod Advances
pub mod Answering
pub mod Found
pub mod Ordered
pub mod Fronts
