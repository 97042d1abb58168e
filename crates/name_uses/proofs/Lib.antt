pub mod Walking
pub mod TypeLists
pub mod PatternLists
pub mod UseLists
pub mod ScopeTables
pub mod Entering
pub mod Bodies
pub mod WholeBodies
