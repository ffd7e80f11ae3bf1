pub mod Grid
pub mod BySlots
pub mod Below
pub mod Walk
