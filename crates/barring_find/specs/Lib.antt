pub mod Trial
pub mod Ball
