pub mod Plain
pub mod Fits
pub mod Held
pub mod Lent
