pub mod Sources
pub mod Substitution
pub mod Nexts
pub mod Instances
pub mod Choices
