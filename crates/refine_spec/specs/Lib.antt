pub mod Rounds
pub mod Selection
pub mod Shift
pub mod Refine
pub mod Answer
pub mod Promises
