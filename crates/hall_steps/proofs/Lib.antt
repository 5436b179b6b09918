pub mod OneKindLaws
pub mod Planned
pub mod Written
