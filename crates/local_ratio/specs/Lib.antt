pub mod Bounds
pub mod Below
pub mod Counting
pub mod Blocks
