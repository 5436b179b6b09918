pub mod Bools
pub mod Sums
pub mod Places
pub mod Keeping
pub mod Sorted
pub mod Order
pub mod Counting
