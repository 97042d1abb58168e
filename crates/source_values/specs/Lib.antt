pub mod Held
pub mod Stacked
