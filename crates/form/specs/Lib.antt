pub mod Form
pub mod Checked
