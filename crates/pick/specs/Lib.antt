pub mod Remaining
