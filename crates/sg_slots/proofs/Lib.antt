pub mod SlotLemmas
pub mod HeaderLemmas
pub mod OverlapLemmas
pub mod TableLemmas
pub mod StandLemmas
pub mod Soundness
pub mod RefusalLemmas
