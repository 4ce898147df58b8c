pub mod Asking
pub mod Reading
pub mod Edits
pub mod Answering
