pub mod Notes
pub mod Ready
