pub mod Examples
pub mod Laws
pub mod Sorting
pub mod Steps
