pub mod Checks
pub mod Sizes
pub mod Fields
