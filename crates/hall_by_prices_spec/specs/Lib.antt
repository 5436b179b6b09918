pub mod Prices
pub mod Limit
pub mod Hall
pub mod Refine
pub mod Answer
pub mod Promises
