pub mod Emits
pub mod Runs
pub mod Copies
