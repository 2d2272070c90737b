pub mod Left
pub mod Links
pub mod Fewer
pub mod Cutting
pub mod Run
pub mod Tables
mod Examples
