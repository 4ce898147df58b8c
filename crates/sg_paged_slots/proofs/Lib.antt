pub mod FileLemmas
pub mod PageLemmas
pub mod BothLemmas
pub mod HeadLemmas
