pub mod Said
pub mod Dialogue
pub mod Cases
pub mod Bench
pub mod State
