pub mod Splice
pub mod Offsets
pub mod Chunks
pub mod RoundTrip
