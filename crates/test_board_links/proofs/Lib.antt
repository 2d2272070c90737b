pub mod Marks
pub mod Scanning
