pub mod LifeLemmas
pub mod RoundLemmas
