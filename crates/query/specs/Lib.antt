pub mod Begun
pub mod Ending
pub mod Entry
pub mod Met
pub mod Result
pub mod Walk
