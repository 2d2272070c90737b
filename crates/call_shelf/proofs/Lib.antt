pub mod CompareAnswer
pub mod CompareFiles
pub mod Cutting
pub mod Inserting
pub mod Meaning
pub mod Text
