pub mod Arms
pub mod Laws
pub mod SameSuits
pub mod Sames
pub mod Steps
pub mod Suiting
