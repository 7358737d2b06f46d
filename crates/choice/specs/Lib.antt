pub mod Fences
pub mod Pass
