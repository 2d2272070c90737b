pub mod Ball
