pub mod ListLemmas
pub mod OrderLemmas
pub mod KindLemmas
pub mod FrontLemmas
pub mod SoundLemmas
pub mod SegmentLemmas
