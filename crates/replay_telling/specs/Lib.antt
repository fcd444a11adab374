pub mod Determined
pub mod Telling
