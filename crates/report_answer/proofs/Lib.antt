pub mod Once
pub mod Outcome
pub mod Promise
pub mod Whole
