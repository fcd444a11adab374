pub mod Open
pub mod Fill
pub mod Added
