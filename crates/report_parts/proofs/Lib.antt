-- What belongs to no one function: that each contract leaves one reply and one buffer.
pub mod Determined
