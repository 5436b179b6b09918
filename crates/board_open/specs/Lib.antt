pub mod Open
pub mod Chosen
pub mod Part
