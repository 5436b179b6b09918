pub mod Duality
pub mod Bare
pub mod Limits
pub mod LimitCauses
pub mod Promised
pub mod Worked
