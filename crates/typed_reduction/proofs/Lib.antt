pub mod Sizes
pub mod Single
pub mod Parts
pub mod Deciding
pub mod Casts
pub mod Emitting
pub mod Numbers
