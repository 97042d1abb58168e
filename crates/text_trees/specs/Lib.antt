pub mod Told
pub mod Nodes
pub mod Types
pub mod Atoms
pub mod Codes
pub mod Declarations
pub mod Definitions
