pub mod Lists
pub mod Sorting
pub mod Order
pub mod Counting
