pub mod StepBytes
pub mod Fronts
pub mod WrittenSteps
