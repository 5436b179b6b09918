pub mod Prices
pub mod Limit
pub mod Promises
pub mod Cases
