pub mod PlayLemmas
pub mod LineLemmas
pub mod ReadLemmas
pub mod PageLemmas
pub mod RanLemmas
pub mod TableLemmas
mod Examples
