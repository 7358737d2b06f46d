pub mod Flat
pub mod Lists
pub mod Holds
