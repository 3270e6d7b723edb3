pub mod Answers
pub mod Publishing
pub mod Reading
pub mod Run
