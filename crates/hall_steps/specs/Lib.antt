pub mod OneKind
pub mod Bounds
