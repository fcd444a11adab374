pub mod Header
pub mod Place
pub mod Back
pub mod Read
