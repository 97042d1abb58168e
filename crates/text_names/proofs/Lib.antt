pub mod Firsts
pub mod Numbers
pub mod Prefixes
pub mod Spelling
pub mod NamedKinds
pub mod Keys
pub mod Placing
