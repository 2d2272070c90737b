pub mod Keys
pub mod Halves
