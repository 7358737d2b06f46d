pub mod Answers
pub mod Show
