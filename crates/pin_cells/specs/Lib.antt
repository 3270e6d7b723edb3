pub mod Tallied
pub mod TallyView
pub mod Pinned
