-- What belongs to no one function: that the contract leaves one answer and one buffer.
pub mod Determined
