pub mod ClearLemmas
pub mod UpgradeLemmas
