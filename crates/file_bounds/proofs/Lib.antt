pub mod Third
pub mod Fit
