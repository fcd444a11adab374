pub mod Base64
pub mod Text
pub mod Import
pub mod Groups
pub mod Inverse
pub mod Ends
pub mod Places
