pub mod Waiting
pub mod Contexts
pub mod Places
pub mod Turns
