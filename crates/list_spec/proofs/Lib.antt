pub mod Rounds
pub mod Sizes
pub mod Slopes
pub mod Listed
pub mod Bytes
pub mod FirstBytes
