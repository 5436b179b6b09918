pub mod Table
pub mod Single
pub mod Groomers
pub mod Best
pub mod Promises
