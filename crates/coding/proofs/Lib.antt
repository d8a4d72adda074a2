pub mod Writing
pub mod Finding
pub mod CaseBlocks
pub mod Putting
