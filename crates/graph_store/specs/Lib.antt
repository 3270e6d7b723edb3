pub mod Table
pub mod Rows
pub mod Making
pub mod Edges
pub mod Plan
