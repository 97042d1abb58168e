pub mod Naming
pub mod Patterns
pub mod Types
