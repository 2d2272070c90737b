pub mod Path
pub mod Simulation
pub mod Problem
pub mod Raised
pub mod Run
