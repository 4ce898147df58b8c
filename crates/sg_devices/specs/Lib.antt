pub mod Blame
pub mod Exchanges
pub mod Folder
pub mod Memory
pub mod Panels
