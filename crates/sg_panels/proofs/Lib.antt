pub mod DrawLemmas
pub mod LineLemmas
pub mod ReadLemmas
pub mod Walks
