pub mod SoundLemmas
pub mod WithinLemmas
pub mod RoundLemmas
pub mod MixLemmas
pub mod WeightLemmas
pub mod TileLemmas
pub mod PlaceLemmas
pub mod SecondLemmas
pub mod BeginLemmas
pub mod ExactLemmas
pub mod LawLemmas
mod Examples
