pub mod Tags
pub mod Faults
