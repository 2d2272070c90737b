pub mod Tried
pub mod Drops
pub mod Netted
pub mod Around
