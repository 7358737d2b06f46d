pub mod Marking
pub mod Standing
pub mod Compacting
pub mod Merging
pub mod Paging
pub mod Chaining
