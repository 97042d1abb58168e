pub mod Limits
pub mod Levels
pub mod Spelled
pub mod Refusals
