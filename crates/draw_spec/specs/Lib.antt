pub mod Draw
pub mod DrawnSheet
pub mod DrawCause
pub mod Promises
