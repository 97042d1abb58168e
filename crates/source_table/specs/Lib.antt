pub mod Follow
pub mod Shortest
pub mod Apart
pub mod Lighter
pub mod PartsFit
pub mod Ends
pub mod Fit
