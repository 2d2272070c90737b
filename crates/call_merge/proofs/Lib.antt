pub mod Merging
pub mod Promise
