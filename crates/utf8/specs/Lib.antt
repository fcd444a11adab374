-- UTF-8 as RFC 3629 has it, the laws of it, and what the functions of the check answer on the way.
pub mod Utf8
pub mod Laws
pub mod Examples
pub mod Steps
pub mod Follow
