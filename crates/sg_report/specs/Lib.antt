pub mod Plays
pub mod Lines
pub mod Report
pub mod Counting
pub mod Writing
