pub mod Remaining
pub mod Picks
