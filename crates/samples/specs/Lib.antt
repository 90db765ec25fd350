pub mod Chain
pub mod Comparison
