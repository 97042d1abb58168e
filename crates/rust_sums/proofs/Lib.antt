pub mod Naming
pub mod Steps
pub mod Typed
pub mod Named
pub mod Sizes
