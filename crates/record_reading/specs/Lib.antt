pub mod Reply
pub mod Held
