pub mod Edits
pub mod Find
pub mod Stand
pub mod Afresh
pub mod Numbered
