pub mod Records
pub mod Views
pub mod Items
pub mod Decoding
