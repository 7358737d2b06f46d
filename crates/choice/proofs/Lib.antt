pub mod Lists
pub mod Levels
pub mod Order
pub mod Pass
pub mod Once
pub mod Keys
pub mod Choose
pub mod Cut
