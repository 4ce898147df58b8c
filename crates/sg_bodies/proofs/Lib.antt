pub mod BatchLemmas
pub mod JsonLemmas
pub mod PlayLemmas
