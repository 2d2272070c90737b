pub mod Barring
pub mod Least
pub mod Outcome
