pub mod WordLemmas
pub mod LineLemmas
pub mod PreviewLemmas
pub mod TopLemmas
