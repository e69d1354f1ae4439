pub mod PlainTexts
pub mod TokenSteps
pub mod Replaced
pub mod ReadOrDefined
