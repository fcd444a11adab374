pub mod Blobs
pub mod Back
pub mod Read
