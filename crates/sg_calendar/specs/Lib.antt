pub mod Civil
pub mod Nearest
pub mod Dates
pub mod Turns
pub mod Windows
pub mod Zone
pub mod ZoneKind
