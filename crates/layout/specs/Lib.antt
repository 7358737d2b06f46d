pub mod Layouts
pub mod Opening
