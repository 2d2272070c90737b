pub mod Balls
pub mod Spanning
