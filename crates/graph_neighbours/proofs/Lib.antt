mod Grouped
pub mod Lookup
