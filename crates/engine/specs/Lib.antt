pub mod Rows
pub mod Check
pub mod Run
pub mod Demands
pub mod Stages
