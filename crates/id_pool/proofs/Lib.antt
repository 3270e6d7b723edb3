pub mod Places
pub mod Chains
pub mod Moves
pub mod Parts
pub mod Taking
pub mod Shapes
pub mod Laid
