pub mod SingleCases
pub mod AnswerCases
