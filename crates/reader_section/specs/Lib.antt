pub mod Section
pub mod Back
pub mod Read
pub mod ReadEncrypted
