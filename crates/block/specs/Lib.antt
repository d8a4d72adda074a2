pub mod Fields
pub mod Block
pub mod Reading
pub mod Sound
pub mod Writer
pub mod Reader
pub mod Following
pub mod Cutting
