pub mod Cut
pub mod Held
