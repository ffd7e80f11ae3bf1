pub mod Tree
pub mod Words
pub mod Causes
pub mod FirstCause
pub mod Decoded
pub mod Encode
pub mod Said
