pub mod Called
pub mod Found
pub mod Reaching
pub mod Rows
pub mod Steps
pub mod Wholes
