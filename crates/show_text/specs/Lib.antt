pub mod ShowText
pub mod Room
