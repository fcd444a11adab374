-- What belongs to no one function: that the contracts leave one answer and one buffer.
pub mod Determined
