pub mod ViewLemmas
pub mod PieceLemmas
