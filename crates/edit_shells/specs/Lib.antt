pub mod Parts
pub mod Shells
pub mod Edits
pub mod Places
pub mod Keys
pub mod Within
pub mod Sequence
pub mod Examples
