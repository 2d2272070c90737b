pub mod Round
pub mod Prepared
