pub mod Ready
pub mod BatchPlays
pub mod Records
pub mod Entries
pub mod Series
