pub mod At
pub mod Below
pub mod Counts
pub mod Rising
pub mod Sums
pub mod Values
pub mod Splice
