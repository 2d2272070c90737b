pub mod Closed
pub mod Simulation
pub mod Perfect
pub mod Quotient
pub mod Grouping
