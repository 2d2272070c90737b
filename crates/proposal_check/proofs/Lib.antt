pub mod Searched
pub mod Marked
