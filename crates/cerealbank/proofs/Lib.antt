pub mod Packing
pub mod Values
