pub mod ByKind
pub mod Counting
