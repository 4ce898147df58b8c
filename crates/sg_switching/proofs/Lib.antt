pub mod SwitchLemmas
pub mod FillLemmas
pub mod StepLemmas
