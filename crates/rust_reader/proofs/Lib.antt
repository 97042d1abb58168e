pub mod Programs
pub mod CallNames
