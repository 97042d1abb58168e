pub mod Values
pub mod Given
pub mod Spine
pub mod Size
pub mod Outcomes
