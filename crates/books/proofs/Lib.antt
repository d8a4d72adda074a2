pub mod Naming
pub mod Counting
pub mod Steps
