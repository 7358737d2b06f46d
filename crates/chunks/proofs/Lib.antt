pub mod Overlay
pub mod Slots
