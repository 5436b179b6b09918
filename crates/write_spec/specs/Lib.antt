pub mod Order
pub mod Write
pub mod Key
pub mod WriteCause
pub mod Promises
