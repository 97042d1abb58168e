pub mod Scopes
pub mod TypeUses
pub mod PathUses
pub mod PatternUses
pub mod Walks
pub mod Hiding
pub mod Uses
pub mod FunctionBodies
