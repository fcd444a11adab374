pub mod Sections
pub mod Halves
