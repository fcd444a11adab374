-- What belongs to no one function: what one byte of a text does, how far ASCII goes, the top bits of bytes, what each byte tells after the
-- three before it, and that a contract leaves one answer.
pub mod Bytes
pub mod Ascii
pub mod Tops
pub mod Following
pub mod Run
pub mod Determined
