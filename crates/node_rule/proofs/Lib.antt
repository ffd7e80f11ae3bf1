pub mod Answers
pub mod RuleLaws
pub mod PointBits
pub mod Sums
pub mod MetaWords
pub mod Slots
