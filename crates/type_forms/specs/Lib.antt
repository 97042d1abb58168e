pub mod Breaks
pub mod Copied
pub mod Inits
pub mod Operator
