pub mod File
pub mod Steps
