pub mod Machine
pub mod State
pub mod Tables
pub mod Session
