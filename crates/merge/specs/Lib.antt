pub mod Merged
pub mod Steps
pub mod Examples
