pub mod Between
pub mod Laws
pub mod Enclose
