pub mod Draws
pub mod Faults
pub mod Marks
pub mod Reads
pub mod Screens
