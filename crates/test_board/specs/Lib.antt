pub mod Board
pub mod Generator
