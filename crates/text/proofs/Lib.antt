pub mod Decimal
pub mod Hex
pub mod Put
pub mod Samples
