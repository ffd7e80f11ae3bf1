pub mod Leaves
pub mod Own
pub mod Grid
