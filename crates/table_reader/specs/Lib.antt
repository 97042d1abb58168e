pub mod Derivations
pub mod Steps
pub mod Conditions
pub mod Reading
pub mod Making
pub mod Building
pub mod Machine
