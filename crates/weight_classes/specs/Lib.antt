pub mod Classes
pub mod Ids
pub mod Inside
pub mod Choice
pub mod Turns
