pub mod Dates
pub mod Views
