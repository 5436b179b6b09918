pub mod Bounds
pub mod Below
pub mod Gathered
pub mod Asked
