pub mod Container
pub mod Halves
pub mod Form
pub mod Back
pub mod Read
pub mod FormLaws
