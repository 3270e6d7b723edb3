pub mod Heaps
pub mod Layout
pub mod Rooms
pub mod Rows
pub mod Sifting
pub mod Tall
