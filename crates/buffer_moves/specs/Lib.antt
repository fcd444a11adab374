pub mod Moves
pub mod Copies
