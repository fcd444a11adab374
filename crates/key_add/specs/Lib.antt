pub mod More
pub mod Add
