pub mod ValueWords
pub mod NamedDefinitions
pub mod Pieces
pub mod Typing
pub mod WordReading
