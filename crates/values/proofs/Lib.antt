pub mod Padding
pub mod Amounts
pub mod Identifiers
