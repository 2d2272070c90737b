pub mod Examples
pub mod Making
pub mod Promise
