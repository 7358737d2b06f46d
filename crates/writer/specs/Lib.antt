pub mod Answers
pub mod Change
