pub mod Tables
pub mod Graphs
pub mod StarRows
pub mod Cells
pub mod Sets
pub mod Wide
