pub mod Sheet
pub mod Exported
pub mod Sheets
pub mod Stages
pub mod Samples
