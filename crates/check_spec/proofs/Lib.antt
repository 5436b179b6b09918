pub mod Passing
pub mod CheckCauses
