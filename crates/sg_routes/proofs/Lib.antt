pub mod SegmentLemmas
pub mod PathLemmas
