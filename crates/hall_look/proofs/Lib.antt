pub mod SumCases
pub mod LookCases
pub mod RelaxedCases
