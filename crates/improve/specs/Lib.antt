pub mod Start
pub mod Words
pub mod Table
pub mod Carried
