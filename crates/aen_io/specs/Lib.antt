pub mod Faults
pub mod Told
pub mod Written
pub mod Reading
pub mod Turns
pub mod InMemory
pub mod Handed
