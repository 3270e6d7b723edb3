pub mod Fits
pub mod Fronts
pub mod Once
pub mod Orders
pub mod Pairs
pub mod Places
pub mod Sifted
pub mod Tells
