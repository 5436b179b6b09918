pub mod Draws
pub mod DrawnSheets
pub mod DrawCauses
