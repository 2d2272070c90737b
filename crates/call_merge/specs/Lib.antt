pub mod Call
pub mod Classes
