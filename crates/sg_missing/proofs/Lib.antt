pub mod FileLemmas
pub mod PieceLemmas
pub mod RunLemmas
pub mod WantedLemmas
