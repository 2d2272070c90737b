pub mod Matching
pub mod Promise
