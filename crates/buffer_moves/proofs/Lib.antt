-- What belongs to no one function: that the contract leaves one buffer.
pub mod Determined
