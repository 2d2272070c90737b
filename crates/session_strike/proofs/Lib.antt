pub mod Entries
mod Looking
pub mod Marking
pub mod Striking
pub mod Going
mod Examples
