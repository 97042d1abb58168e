pub mod Derived
pub mod ReadingLemmas
