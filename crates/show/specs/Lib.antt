pub mod Show
pub mod Input
