pub mod Answers
pub mod Change
pub mod Format
pub mod Show
