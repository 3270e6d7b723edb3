pub mod Streams
pub mod Memory
pub mod MemoryInside
pub mod Standard
