pub mod Chunks
pub mod Images
pub mod Keeping
pub mod Judging
