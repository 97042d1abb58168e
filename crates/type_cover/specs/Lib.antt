pub mod Rows
pub mod Ways
pub mod Splitting
pub mod Suits
pub mod FitsSuit
pub mod Stack
pub mod Cells
pub mod Remembered
