pub mod Openings
pub mod OpenCauses
pub mod Written
pub mod Chosen
pub mod Parts
