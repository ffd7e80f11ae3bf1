pub mod KindBits
pub mod LeafSteps
pub mod GridBox
pub mod OwnSteps
pub mod Whole
