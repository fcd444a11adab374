pub mod Table
pub mod Ciphers
pub mod Algorithms
