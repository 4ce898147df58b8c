pub mod NumberLemmas
pub mod OwnLemmas
pub mod ValidLemmas
pub mod SnapshotLemmas
