pub mod Match
pub mod Spread
pub mod Bytes
pub mod Outcome
pub mod Find
pub mod Examples
