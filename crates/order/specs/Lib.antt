pub mod Examples
pub mod Files
pub mod Meaning
pub mod Order
pub mod Sorting
