pub mod AgainEdits
pub mod SoundEdits
