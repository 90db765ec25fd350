pub mod Raising
pub mod Carrying
pub mod Whole
