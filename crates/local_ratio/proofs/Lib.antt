pub mod Signed
pub mod Steps
pub mod Replaying
pub mod Holdings
pub mod Blocks
