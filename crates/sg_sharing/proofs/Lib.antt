pub mod KeepLemmas
pub mod ShareLemmas
