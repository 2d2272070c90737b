pub mod Perfect
pub mod Finder
pub mod Examples
