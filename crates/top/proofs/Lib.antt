pub mod Lists
pub mod Marks
pub mod Inserting
pub mod Moves
pub mod Words
pub mod Pushing
pub mod Closing
pub mod Laws
