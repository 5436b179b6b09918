pub mod Numbers
pub mod Marks
pub mod Puts
