pub mod Fields
pub mod Cells
pub mod Sizes
pub mod RootRows
pub mod Formed
pub mod Parts
