pub mod Codes
pub mod Texts
pub mod Amounts
pub mod Views
pub mod Identifiers
pub mod Kinds
