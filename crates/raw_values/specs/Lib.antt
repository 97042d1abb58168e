pub mod Carriers
pub mod Stacked
