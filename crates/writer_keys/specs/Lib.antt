pub mod Named
pub mod Checked
pub mod Passes
