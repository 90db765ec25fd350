pub mod Joining
pub mod TypeParts
pub mod Values
pub mod Walk
