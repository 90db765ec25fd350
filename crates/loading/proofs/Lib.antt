pub mod Marking
pub mod Loading
