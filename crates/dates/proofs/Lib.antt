pub mod Dates
pub mod Digits
