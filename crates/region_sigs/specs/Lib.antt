pub mod Gives
pub mod InBodies
pub mod Standings
pub mod Walks
