pub mod Pairs
pub mod Ways
pub mod Layers
pub mod Keys
pub mod Unasked
pub mod Row
pub mod Shrinking
