pub mod Rows
pub mod Entries
pub mod Refusals
pub mod Counts
pub mod Tables
