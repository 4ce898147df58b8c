pub mod Own
pub mod Numbers
