pub mod Snapshot
pub mod Text
pub mod Sample
pub mod Faults
pub mod Reading
pub mod Fitting
pub mod Agreement
