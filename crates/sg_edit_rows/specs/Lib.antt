pub mod EditRows
pub mod Older
