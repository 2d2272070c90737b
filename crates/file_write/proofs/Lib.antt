pub mod FileFields
pub mod Writing
pub mod RoundTrip
