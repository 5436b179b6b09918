pub mod Hall
pub mod Plan
pub mod Promises
pub mod Charge
pub mod SheetPromises
