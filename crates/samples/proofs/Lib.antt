pub mod Samples
pub mod Further
pub mod NearLimit
pub mod MinusZero
pub mod Losses
pub mod Joins
pub mod Seated
pub mod Ordering
