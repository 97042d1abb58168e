pub mod Gives
pub mod AsTypeFault
pub mod Lent
pub mod Contents
pub mod Counting
pub mod Entered
pub mod Places
pub mod Setting
