pub mod Sizes
pub mod Stores
pub mod Whole
