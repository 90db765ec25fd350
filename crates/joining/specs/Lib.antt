pub mod Join
pub mod Exported
pub mod Joins
pub mod Previews
pub mod Stages
pub mod Samples
