pub mod Complete
pub mod Linear
pub mod Marks
pub mod Steps
pub mod Tests
pub mod Verdict
