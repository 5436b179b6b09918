pub mod OneKind
pub mod Supply
