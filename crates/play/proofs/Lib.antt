pub mod Rows
pub mod Steps
pub mod Again
pub mod Whole
pub mod Answers
