pub mod Ways
pub mod Columns
pub mod Flags
pub mod Load
pub mod Placing
