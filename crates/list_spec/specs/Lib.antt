pub mod Round
pub mod Text
pub mod List
pub mod Answer
pub mod Limits
