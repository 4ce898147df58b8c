pub mod Fields
pub mod Head
pub mod Messages
pub mod Places
pub mod Replies
pub mod Search
pub mod Streams
pub mod Texts
