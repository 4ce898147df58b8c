pub mod GapLemmas
