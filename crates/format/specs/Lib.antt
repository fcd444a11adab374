pub mod Format
pub mod Scalars
pub mod Laws
pub mod Lengths
