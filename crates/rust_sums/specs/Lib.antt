pub mod Gets
pub mod Sums
