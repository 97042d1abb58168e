pub mod Twice
pub mod FirstPlaces
