pub mod Report
pub mod Short
pub mod Examples
