pub mod Examples
pub mod Least
pub mod Meaning
pub mod Outcome
pub mod Procedure
