pub mod Keys
pub mod Found
