pub mod WriteRecords
pub mod Measures
pub mod Writings
