pub mod ActiveLemmas
pub mod EdgeLemmas
mod QuietLemmas
mod Examples
