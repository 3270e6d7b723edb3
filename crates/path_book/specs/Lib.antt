pub mod Book
pub mod Dirty
pub mod Layout
pub mod Admitted
pub mod Through
