pub mod Beginning
pub mod Boxes
pub mod NewReferences
pub mod Noting
pub mod Parameters
pub mod Parts
