pub mod Words
pub mod Ways
pub mod Makes
pub mod Made
pub mod Built
pub mod Reading
