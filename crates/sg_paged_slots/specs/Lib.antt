pub mod PagedDamage
pub mod Both
pub mod Headers
pub mod PagedSlots
