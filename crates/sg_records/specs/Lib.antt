pub mod Replies
pub mod Clients
pub mod Reading
pub mod Saved
pub mod Numbers
