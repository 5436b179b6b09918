pub mod Board
pub mod Shift
