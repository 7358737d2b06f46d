pub mod Packing
pub mod Going
pub mod Steps
pub mod Counting
pub mod Whole
