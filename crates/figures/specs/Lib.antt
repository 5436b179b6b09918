pub mod Figures
pub mod Promised
