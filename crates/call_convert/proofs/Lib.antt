pub mod Packages
pub mod Converting
pub mod Promise
