pub mod Supplies
pub mod Allowed
pub mod Frees
pub mod Charges
