pub mod Worked
pub mod Claimed
pub mod Listed
pub mod Confirming
