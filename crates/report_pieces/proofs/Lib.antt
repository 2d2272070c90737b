pub mod Pieces
pub mod Progress
pub mod Refused
