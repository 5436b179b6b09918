pub mod PaidRuns
pub mod RunCases
pub mod SumCases
pub mod CountCases
pub mod LookCases
pub mod DriverlessCases
