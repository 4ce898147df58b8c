pub mod Doors
pub mod Lists
pub mod Memory
pub mod Streams
