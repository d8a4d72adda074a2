pub mod Books
pub mod Rest
pub mod Refusals
pub mod Totals
