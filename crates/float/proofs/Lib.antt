-- The laws on floats. The order: Signed, Order. Bounds and what keeps them: Held, Rounding, Magnitude, Monotone.
-- Signs and bit patterns: Sign, NanBits, Units. Zeros, and powers of two: Zeros, PowerOfTwo.
pub mod Held
pub mod Magnitude
pub mod Monotone
pub mod NanBits
pub mod Order
pub mod PowerOfTwo
pub mod Rounding
pub mod Sign
pub mod Signed
pub mod Units
pub mod Unsigned
pub mod Zeros
