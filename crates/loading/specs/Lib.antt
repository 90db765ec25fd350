pub mod Marks
pub mod Loaded
