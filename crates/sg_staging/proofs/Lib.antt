pub mod ShelfLemmas
pub mod PageLemmas
pub mod ChoiceLemmas
pub mod StageLemmas
