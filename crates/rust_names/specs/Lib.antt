pub mod Resolution
pub mod Naming
pub mod Answers
