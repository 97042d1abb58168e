pub mod Fronts
pub mod Stands
pub mod Scan
pub mod Lexing
pub mod Naming
