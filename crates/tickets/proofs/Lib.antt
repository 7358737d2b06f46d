pub mod Again
pub mod Gathering
pub mod Handing
pub mod Passed
