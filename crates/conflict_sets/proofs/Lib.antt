pub mod BitLaws
pub mod SetCases
pub mod RowCases
pub mod PairCases
pub mod ChoiceCases
