pub mod Header
pub mod Section
pub mod Read
