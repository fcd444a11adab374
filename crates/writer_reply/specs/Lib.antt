pub mod Reply
pub mod Sized
