pub mod Filling
pub mod Marking
pub mod Passing
pub mod Reading
pub mod Answering
pub mod Verdict
