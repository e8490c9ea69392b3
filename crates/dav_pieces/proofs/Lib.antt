pub mod RunBytes
pub mod PieceLaws
pub mod CutSteps
pub mod Growing
