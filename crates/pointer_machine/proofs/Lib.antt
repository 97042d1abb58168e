mod Places
mod Frames
mod Ends
mod Expressions
mod Bodies
pub mod Runs
mod Rights
mod Sizes
