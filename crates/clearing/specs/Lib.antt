pub mod Hex
pub mod Assigned
pub mod Lines
pub mod Printed
