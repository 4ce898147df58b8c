pub mod Plays
pub mod Rounds
pub mod Scenes
pub mod Seconds
