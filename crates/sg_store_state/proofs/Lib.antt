pub mod OpenLemmas
pub mod ReadLemmas
pub mod RenewLemmas
pub mod FaultlessLemmas
pub mod StepLemmas
pub mod StageLemmas
pub mod NextLemmas
