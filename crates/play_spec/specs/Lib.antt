pub mod Day
pub mod Standing
pub mod Play
pub mod Minutes
pub mod Promises
pub mod DayTable
