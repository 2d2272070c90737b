pub mod Grouped
pub mod Lookup
