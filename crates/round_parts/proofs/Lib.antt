pub mod RankCases
pub mod ChangeCases
pub mod WorthCases
