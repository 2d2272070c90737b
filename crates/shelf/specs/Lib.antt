pub mod Printing
pub mod Folder
