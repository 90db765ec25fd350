pub mod Compose
pub mod Chain
pub mod Fields
pub mod Emitting
pub mod Runs
pub mod EncodedRuns
pub mod RunParts
pub mod Copies
