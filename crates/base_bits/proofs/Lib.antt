pub mod Digits
pub mod Numbers
pub mod Tests
pub mod Counts
pub mod Members
pub mod Unions
pub mod Passing
