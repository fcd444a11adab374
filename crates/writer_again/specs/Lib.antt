pub mod Rewrite
pub mod Sized
