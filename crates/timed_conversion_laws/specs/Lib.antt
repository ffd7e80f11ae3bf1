pub mod TimedRefusals
pub mod TimedCall
