pub mod OpeningLemmas
pub mod StagingLemmas
pub mod SwitchLemmas
pub mod FaultLemmas
pub mod FileLemmas
pub mod ByteLemmas
