pub mod Settled
pub mod NamedTypes
pub mod Places
pub mod Kinds
pub mod Digits
pub mod Bearing
