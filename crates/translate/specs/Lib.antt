pub mod Lists
pub mod Means
pub mod Emit
pub mod Spine
pub mod Adds
