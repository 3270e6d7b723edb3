pub mod Words
pub mod Input
pub mod Refused
pub mod Edges
pub mod Meaning
pub mod Answer
pub mod Scan
pub mod Cutter
