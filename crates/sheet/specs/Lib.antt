pub mod Kind
pub mod Record
pub mod Read
pub mod Layout
pub mod Accepted
pub mod Promises
pub mod Short
pub mod Shift
