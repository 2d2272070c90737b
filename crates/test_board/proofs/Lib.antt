pub mod Board
pub mod Draws
pub mod Generator
