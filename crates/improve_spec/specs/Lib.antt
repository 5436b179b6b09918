pub mod Search
pub mod Sets
pub mod Promises
pub mod Improve
pub mod SheetPromises
