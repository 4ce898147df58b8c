pub mod Fixed
pub mod Found
pub mod Pictures
pub mod ValidLemmas
pub mod ShownLemmas
pub mod SteadyLemmas
mod Examples
