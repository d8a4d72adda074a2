pub mod Bytes
pub mod Alphabet
