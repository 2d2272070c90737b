pub mod Waking
pub mod Due
pub mod Row
pub mod Rounds
