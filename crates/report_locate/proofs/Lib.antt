pub mod Centre
pub mod Component
