pub mod Alphabet
pub mod Rule
