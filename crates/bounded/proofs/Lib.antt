pub mod Paths
pub mod Meaning
pub mod Wider
pub mod Run
pub mod Examples
