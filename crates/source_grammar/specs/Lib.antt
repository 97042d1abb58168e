pub mod Classes
pub mod Productions
pub mod Spelled
pub mod Lexemes
