pub mod Content
pub mod Classes
pub mod Grouped
pub mod Merging
pub mod Accepted
pub mod Places
pub mod Steps
pub mod Examples
