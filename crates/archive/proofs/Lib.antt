pub mod KeepCases
pub mod RestoreCases
