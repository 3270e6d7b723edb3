pub mod Copying
pub mod Longer
