pub mod Host
pub mod Session
