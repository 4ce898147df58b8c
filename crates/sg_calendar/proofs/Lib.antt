pub mod CivilLemmas
pub mod ZoneLemmas
pub mod WindowLemmas
pub mod NearestLemmas
pub mod DateLemmas
pub mod StartLemmas
mod Examples
