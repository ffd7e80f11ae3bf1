pub mod Given
pub mod NoOther
pub mod SoundPanes
