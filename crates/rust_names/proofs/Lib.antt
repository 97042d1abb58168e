pub mod Counting
pub mod ItemParts
