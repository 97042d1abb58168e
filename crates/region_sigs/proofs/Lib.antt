pub mod Failing
pub mod Walking
pub mod Lists
pub mod NoRegions
pub mod OneRegion
