pub mod Machine
pub mod Soundness
pub mod Marks
pub mod Announced
pub mod Pooled
