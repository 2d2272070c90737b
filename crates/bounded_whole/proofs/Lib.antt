pub mod Rounds
pub mod Settle
