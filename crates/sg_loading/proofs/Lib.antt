pub mod RowLemmas
pub mod LawLemmas
pub mod OneRow
pub mod MediumLemmas
pub mod PageLemmas
pub mod RunLemmas
