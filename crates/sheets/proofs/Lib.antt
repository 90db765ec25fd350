pub mod Stages
pub mod Meaning
pub mod Uses
pub mod Samples
