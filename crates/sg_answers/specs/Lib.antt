pub mod Keys
pub mod Calls
pub mod Outcomes
pub mod Answers
