pub mod FoldLemmas
pub mod ReadLemmas
pub mod RunLemmas
pub mod EndLemmas
pub mod SayLemmas
