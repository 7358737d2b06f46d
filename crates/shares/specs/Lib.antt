pub mod Shares
pub mod Shadow
