pub mod Problem
pub mod ByStart
