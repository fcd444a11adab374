pub mod Fill
pub mod FillTwo
pub mod Reply
