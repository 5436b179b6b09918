pub mod OrdersAndCounts
