pub mod MarkLemmas
pub mod MapLemmas
pub mod PartLemmas
pub mod FreeLemmas
pub mod ShelfLemmas
