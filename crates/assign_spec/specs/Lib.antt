pub mod Numbering
pub mod Underway
pub mod Assign
