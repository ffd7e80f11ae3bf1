pub mod TimedConversion
pub mod Answer
