pub mod Classing
pub mod Among
pub mod Kinds
pub mod Standing
pub mod Brackets
pub mod Numerals
pub mod ProperTokens
