pub mod Parts
pub mod Pieces
pub mod Joined
