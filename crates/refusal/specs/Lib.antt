pub mod Number
pub mod Cause
pub mod Failure
pub mod Words
pub mod Outcome
pub mod Written
