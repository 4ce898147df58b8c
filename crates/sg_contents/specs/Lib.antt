pub mod Lawful
pub mod StandsFor
