pub mod SoundSaved
pub mod ReplyLemmas
pub mod SavedLemmas
