pub mod Serving
pub mod Places
pub mod Answers
