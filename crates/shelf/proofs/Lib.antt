pub mod Cut
pub mod Printing
pub mod Folder
