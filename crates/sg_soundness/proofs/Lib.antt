pub mod SoundFiles
pub mod MapBack
pub mod SlotStands
pub mod SoundSlots
pub mod SoundHeader
