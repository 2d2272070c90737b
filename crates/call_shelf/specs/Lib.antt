pub mod Compare
pub mod Shelf
pub mod Steps
pub mod Strings
pub mod Text
