pub mod Bytes
pub mod Slots
pub mod Damage
pub mod Refusals
