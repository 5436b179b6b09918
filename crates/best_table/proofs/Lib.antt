pub mod KeyCases
pub mod OrderCases
pub mod BlockedCases
pub mod TableCases
pub mod BestCases
