pub mod Entering
pub mod Changing
pub mod Foreseeing
