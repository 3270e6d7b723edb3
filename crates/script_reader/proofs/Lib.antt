pub mod Splitting
pub mod Loops
pub mod Fitting
pub mod Cutting
pub mod Begun
