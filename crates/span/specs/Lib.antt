pub mod Span
pub mod Hull
