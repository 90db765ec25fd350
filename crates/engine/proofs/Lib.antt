pub mod Parts
pub mod Typing
pub mod Judging
pub mod Rows
pub mod Checked
pub mod Ran
pub mod Demands
