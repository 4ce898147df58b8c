pub mod Pairs
pub mod Standing
pub mod Formats
pub mod Areas
pub mod Gates
pub mod Fresh
pub mod Upgraded
