pub mod SideTable
pub mod Narrowest
pub mod Laid
