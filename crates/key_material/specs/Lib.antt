pub mod Material
pub mod Laws
