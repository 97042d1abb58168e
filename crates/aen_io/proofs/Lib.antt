mod Entries
mod Fronts
mod Logs
pub mod Rising
pub mod Writings
