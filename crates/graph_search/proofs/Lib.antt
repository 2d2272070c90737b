pub mod Full
pub mod Onward
pub mod Going
