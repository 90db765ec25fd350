pub mod Runs
pub mod Rebasing
pub mod Writing
pub mod Shifting
pub mod Placing
pub mod PlacedRuns
