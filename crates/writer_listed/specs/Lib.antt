pub mod Listed
pub mod Rows
pub mod Steps
pub mod Whole
pub mod Accepted
