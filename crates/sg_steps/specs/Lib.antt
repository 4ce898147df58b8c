pub mod State
pub mod Edits
pub mod Step
pub mod Calls
pub mod Epochs
