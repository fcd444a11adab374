-- What belongs to no one function: that the contract leaves one reply and one buffer.
pub mod Determined
