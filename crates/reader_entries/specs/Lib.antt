pub mod Entries
pub mod Back
pub mod Read
