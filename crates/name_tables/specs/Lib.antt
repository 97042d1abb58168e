pub mod Finding
pub mod Gives
pub mod Tables
pub mod Lookups
pub mod ListLemmas
pub mod NodeLemmas
