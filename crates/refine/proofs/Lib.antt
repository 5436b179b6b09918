pub mod BoardCases
pub mod AnswerCases
