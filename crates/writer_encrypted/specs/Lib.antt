pub mod Encrypted
pub mod Parts
pub mod Sealed
