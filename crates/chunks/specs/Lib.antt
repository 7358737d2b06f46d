pub mod Chunks
pub mod Peel
