pub mod Problem
pub mod Row
pub mod Answer
pub mod Reading
pub mod Masks
