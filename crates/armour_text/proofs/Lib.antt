pub mod Text
pub mod Ends
pub mod Exactly
pub mod Examples
