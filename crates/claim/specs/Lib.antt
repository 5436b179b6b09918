pub mod Shift
pub mod Cases
pub mod Claim
pub mod Confirm
pub mod Listed
