pub mod Halves
pub mod Ready
