-- What belongs to no one function: that each contract leaves one answer and one buffer, and the laws of the edits.
pub mod Determined
pub mod Edits
pub mod Within
pub mod Sequence
pub mod Sorted
