mod Opening
pub mod Promise
