pub mod NoteCases
pub mod PartCases
pub mod AnswerCases
pub mod Pieces
pub mod LinePieces
