pub mod Shapes
pub mod Fitness
pub mod Scanning
pub mod Refusals
pub mod Messages
pub mod Findings
