pub mod PayerCases
pub mod DriversOrder
pub mod MoveCases
pub mod TakenTurns
