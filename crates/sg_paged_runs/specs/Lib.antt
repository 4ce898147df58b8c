pub mod Stage
pub mod Lawful
pub mod Steps
pub mod Stops
