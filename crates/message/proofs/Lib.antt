pub mod Slots
pub mod Passing
pub mod Gathering
pub mod Forms
pub mod Refusing
pub mod Presence
