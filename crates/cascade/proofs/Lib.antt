pub mod Depth
pub mod Rolling
pub mod Whole
