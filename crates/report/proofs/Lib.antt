pub mod Pieces
pub mod Order
pub mod Centre
pub mod Lengths
pub mod Examples
