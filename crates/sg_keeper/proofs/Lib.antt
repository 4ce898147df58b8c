pub mod MapLemmas
pub mod PageLemmas
