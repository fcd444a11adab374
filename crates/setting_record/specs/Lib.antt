pub mod Bits
pub mod Packing
pub mod Record
pub mod Laws
pub mod Places
