pub mod NumberLemmas
pub mod ChangeLemmas
pub mod EpochLemmas
