pub mod Bytes
pub mod Lines
pub mod Machine
pub mod Cases
