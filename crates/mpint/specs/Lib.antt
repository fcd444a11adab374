pub mod Mpint
pub mod Zeros
pub mod Values
pub mod Laws
