pub mod Faults
pub mod Rule
pub mod Folds
