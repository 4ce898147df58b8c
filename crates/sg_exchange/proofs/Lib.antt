pub mod HeardLemmas
pub mod LawLemmas
pub mod NamedLemmas
