pub mod CaseFields
pub mod Putting
pub mod Decoding
